use Rattle.std.proofs.Common.{rules, arith}
use Rattle.std.proofs.lemmas.Int.{ints}
use Rattle.integers.proofs.Overflow.{passed}
use Rattle.nearest.proofs.Faces.{chosen_either}
use Rattle.nearest.proofs.span.or_face.Goals as goal

pub returns : goal.returns
returns g c = chosen_either c.args.best.now c.nearest-next.result c.map_or.result _ (omega (arith, ints, passed c.args.weight c.ranges.weight.sfits, c.if-positive.false)) c.nearest-next.ensures (λ x p. search rules) c.map_or.ensures
