use Rattle.std.proofs.Common.{[], ◌∷◌, pos, sym, ap, div-le_self, arith}
use Rattle.integers.proofs.Divisors.{divides_pos, quotient_exact, quotient_some, reduced_by}
use Rattle.exact.specs.Terms.{parts}
use Rattle.exact.proofs.gap.Gap.lowest.Goals as goal

pub invariant_of-result : goal.invariant_of-result
invariant_of-result c =
    let s = c.args.self in let g = c.gcd-g.result in
    record { low = omega (arith, div-le_self s.p g); over = quotient_some s.q g s.over c.gcd-g.ensures.divides.1.0; few = omega (arith, div-le_self s.q g) }

pub returns : goal.returns
returns c =
    let s = c.args.self in let g = c.gcd-g.result in
    let some = divides_pos g s.q s.over c.gcd-g.ensures.divides.1.0 in
    let ep = ap pos (sym (quotient_exact s.p g some c.gcd-g.ensures.divides.0)) in
    let eq = ap pos (sym (quotient_exact s.q g some c.gcd-g.ensures.divides.1.0)) in
    reduced_by (parts s) _ g some c.gcd-g.ensures (λ i. ep i ∷ eq i ∷ [])
