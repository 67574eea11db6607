-- The sum, coordinate by coordinate.
use Rattle.std.proofs.Common.{arith}
use Rattle.std.proofs.lemmas.Int.{ints}
use Rattle.exact.proofs.Coordinates.{same}
use Rattle.poses.proofs.ends.sum.Goals as goal

pub returns : goal.returns
returns c = same (omega (arith, ints)) (omega (arith, ints)) (omega (arith, ints))
