use Rattle.std.proofs.Common.{◌≤◌, [], ◌∷◌, ◌++◌, length, sym, ◌∙◌, subst, arith}
use Rattle.convex.specs.Simplices.{Independent}
use Rattle.nearest.specs.Pairs.{betweens}
use Rattle.nearest.specs.Simplices.{pairs}
use Rattle.nearest.proofs.Faces.{less, not_less_≤}
use Rattle.nearest.proofs.Turns.{fits, apart}
use Rattle.nearest.proofs.carrier.Carrier.grown.Goals as goal

pub returns-then-not-nearer : goal.returns-then-not-nearer
returns-then-not-nearer c = not_less_≤ _ _ (sym c.nearer.ensures ∙ c.if-not-nearer.true)

pub invariant_of-nearest : goal.invariant_of-nearest
invariant_of-nearest c = let w = c.args.w in record { independent = subst (λ s. Independent (betweens (pairs s ++ w ∷ []))) c.in-One.is (apart c.args.self w (less _ _ (sym c.nearer.ensures ∙ c.if-not-nearer.false))) }

pub invariant_of-nearest-in-Two : goal.invariant_of-nearest-in-Two
invariant_of-nearest-in-Two c = let w = c.args.w in record { independent = subst (λ s. Independent (betweens (pairs s ++ w ∷ []))) c.in-Two.is (apart c.args.self w (less _ _ (sym c.nearer.ensures ∙ c.if-not-nearer.false))) }

pub invariant_of-nearest-in-Three : goal.invariant_of-nearest-in-Three
invariant_of-nearest-in-Three c = let w = c.args.w in record { independent = subst (λ s. Independent (betweens (pairs s ++ w ∷ []))) c.in-Three.is (apart c.args.self w (less _ _ (sym c.nearer.ensures ∙ c.if-not-nearer.false))) }

pub unreachable-requires : goal.unreachable-requires
unreachable-requires c = let few = subst (λ s. length (pairs s) ≤ 3) c.in-Four.is (fits c.args.self c.args.w (less _ _ (sym c.nearer.ensures ∙ c.if-not-nearer.false))) in omega (arith, few)
