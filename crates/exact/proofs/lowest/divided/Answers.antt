use Rattle.exact.proofs.Quotients.{divided_is}
use Rattle.exact.proofs.lowest.divided.Goals as goal

pub returns : goal.returns
returns c = divided_is c.args.x c.args.by c.ranges.x c.requires.0 c.requires.1.0 c.requires.1.1
