use Rattle.std.proofs.Common.{arith, ◌∙◌}
use Rattle.std.proofs.lemmas.Int.{ints}
use Rattle.exact.proofs.Coordinates.{same}
use Rattle.layers.proofs.swell.widened.Goals as goal

pub returns-clause-low : goal.returns-clause-low
returns-clause-low c = c.moved.ensures ∙ same (omega (arith, ints)) (omega (arith, ints)) (omega (arith, ints))
