use Rattle.std.proofs.Common.{[], ◌∷◌, w64, SFits, rules}
use Rattle.integers.proofs.Divisors.{reduced_by}
use Rattle.integers.proofs.Overflow.{result_fits}
use Rattle.exact.specs.Terms.{terms}
use Rattle.exact.proofs.Quotients.{divides-kept, factor-kept, quotient_pos}
use Rattle.exact.proofs.fraction.Fraction.lowest.Goals as goal

pub divided-x-requires : goal.divided-x-requires
divided-x-requires c = let f : SFits w64 c.args.self.point.x = search rules in (c.divisor-g.ensures.low_bound, (c.divisor-g.ensures.high_bound, divides-kept c.divisor-g.result c.args.self.point.x f c.divisor-g.ensures.greatest.divides.0))

pub divided-y-requires : goal.divided-y-requires
divided-y-requires c = let f : SFits w64 c.args.self.point.y = search rules in (c.divisor-g.ensures.low_bound, (c.divisor-g.ensures.high_bound, divides-kept c.divisor-g.result c.args.self.point.y f c.divisor-g.ensures.greatest.divides.1.0))

pub divided-z-requires : goal.divided-z-requires
divided-z-requires c = let f : SFits w64 c.args.self.point.z = search rules in (c.divisor-g.ensures.low_bound, (c.divisor-g.ensures.high_bound, divides-kept c.divisor-g.result c.args.self.point.z f c.divisor-g.ensures.greatest.divides.1.1.0))

pub divided-over-requires : goal.divided-over-requires
divided-over-requires c = let f : SFits w64 c.args.self.over = search rules in (c.divisor-g.ensures.low_bound, (c.divisor-g.ensures.high_bound, divides-kept c.divisor-g.result c.args.self.over f c.divisor-g.ensures.greatest.divides.1.1.1.0))

pub invariant_of-result : goal.invariant_of-result
invariant_of-result c =
    let f : SFits w64 c.args.self.over = search rules in
    record { positive = quotient_pos c.divisor-g.result c.args.self.over _ c.args.self.positive (factor-kept c.divisor-g.result c.args.self.over c.divided-over.result f (result_fits c.divided-over.result c.divided-over.type_inv) c.divided-over.ensures) }

pub returns : goal.returns
returns c =
    let s = c.args.self in
    let g = c.divisor-g.result in
    let fx : SFits w64 s.point.x = search rules in
    let fy : SFits w64 s.point.y = search rules in
    let fz : SFits w64 s.point.z = search rules in
    let fw : SFits w64 s.over = search rules in
    let ex = factor-kept g s.point.x c.divided-x.result fx (result_fits c.divided-x.result c.divided-x.type_inv) c.divided-x.ensures in
    let ey = factor-kept g s.point.y c.divided-y.result fy (result_fits c.divided-y.result c.divided-y.type_inv) c.divided-y.ensures in
    let ez = factor-kept g s.point.z c.divided-z.result fz (result_fits c.divided-z.result c.divided-z.type_inv) c.divided-z.ensures in
    let ew = factor-kept g s.over c.divided-over.result fw (result_fits c.divided-over.result c.divided-over.type_inv) c.divided-over.ensures in
    reduced_by (terms s) _ g c.divisor-g.ensures.low_bound c.divisor-g.ensures.greatest (λ i. ex i ∷ ey i ∷ ez i ∷ ew i ∷ [])
