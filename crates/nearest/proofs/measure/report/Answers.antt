use Rattle.std.proofs.Common.{[], ◌∷◌, pos, ◌<ℤ◌, sym, subst}
use Rattle.integers.specs.Divisors.{Reduced}
use Rattle.exact.specs.Terms.{terms, parts}
use Rattle.nearest.proofs.Pairs.{positive}
use Rattle.nearest.proofs.Tells.{extent-kept}
use Rattle.nearest.proofs.measure.report.Goals as goal

pub invariant_of-fraction : goal.invariant_of-fraction
invariant_of-fraction c = record { positive = subst (λ w. pos 0 <ℤ w) (sym (extent-kept c.args.found)) (positive c.args.found) }

pub returns : goal.returns
returns c =
    record {
      fraction = subst (λ D. Reduced (D.x ∷ D.y ∷ D.z ∷ c.args.found.extent ∷ []) (terms c.lowest-difference.result)) c.from.ensures (subst (λ w. Reduced (c.from.result.x ∷ c.from.result.y ∷ c.from.result.z ∷ w ∷ []) (terms c.lowest-difference.result)) (extent-kept c.args.found) c.lowest-difference.ensures);
      gap = pos c.gap.result.p;
      square = c.gap.ensures.square;
      ratio = subst (λ w. Reduced (pos c.gap.result.p ∷ w ∷ []) (parts c.lowest-gap.result)) c.gap.ensures.over c.lowest-gap.ensures;
      witnesses = c.witnesses.ensures;
    }
