use Rattle.std.proofs.Common.{rules}
use Rattle.layers.proofs.Mirrors.{mirrored-found}
use Rattle.layers.proofs.mirror.MirrorPartBook.farthest_along.Goals as goal

pub returns : goal.returns
returns g c = search (rules, mirrored-found)
