use Rattle.nearest.proofs.Tells.{blank_is}
use Rattle.nearest.proofs.measure.blank.Goals as goal

pub returns : goal.returns
returns c = blank_is _ _
