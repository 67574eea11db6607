-- The search's answer in the words of corners and products.
use Rattle.std.proofs.Common.{◌≡◌, ℕ, Bool, not, List, ℤ, Option, subst, rules}
use Rattle.std.specs.Prelude.{int_le}
use Rattle.std.specs.Ordering.{int_cmp, is_gt}
use Rattle.integers.specs.Points.{Pt, dot}
use Rattle.search.specs.declared.Scored.{Scored}
use Rattle.search.specs.Firsts.{no_better}
use Rattle.search.specs.Places.{Placed}
use Rattle.exact.specs.declared.scores.Product.{Product}
use Rattle.exact.specs.Spots.{Corner, spot}
use Rattle.exact.specs.Finds.{Farthest}

-- the same places are best by two orders that agree
placed_alike : {X S : Type 0} (nb mb : S → S → Bool) → ((x y : S) → nb x y ≡ mb x y) → (f : X → S) (xs : List X) (r : Option (Scored ℕ S)) → Placed nb f xs r → Placed mb f xs r
placed_alike nb mb e f xs r h = subst (λ b. Placed b f xs r) (λ i x y. e x y i) h

no_larger : (a b : ℤ) → not (is_gt (int_cmp a b)) ≡ int_le a b
no_larger a b = search rules

-- the best place by products is that of a farthest corner
pub farthest_placed : (cs : List Corner) (d : Pt) (r : Option (Scored ℕ Product)) → Placed (no_better (λ (x y : Product). int_cmp x.0 y.0)) (λ c. record { 0 = dot d (spot c) }) cs r → Farthest cs d r
farthest_placed cs d r h = placed_alike _ _ (λ x y. no_larger x.0 y.0) _ cs r h
