use Rattle.std.proofs.Common.{pos, nat_abs, ap, ◌∙◌, arith}
use Rattle.std.proofs.lemmas.Int.{ints}
use Rattle.integers.proofs.Overflow.{passed}
use Rattle.nearest.proofs.solves.SolidSpan4.extent.Goals as goal

pub abs-requires : goal.abs-requires
abs-requires c = omega (arith, ints, c.volume.ensures.size)

pub returns : goal.returns
returns c = passed c.abs.result c.abs.type_inv ∙ c.abs.ensures.value ∙ ap (λ t. pos (nat_abs t)) (passed c.volume.result c.volume.type_inv ∙ c.volume.ensures.value)
