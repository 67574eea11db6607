-- What the two searches answer, in terms of corners and of gaps.
use Rattle.std.specs.Prelude.{ℕ, not, List, Option, int_le}
use Rattle.integers.specs.Points.{Pt, dot}
use Rattle.exact.specs.declared.gap.Gap.{Gap}
use Rattle.exact.specs.declared.scores.Product.{Product}
use Rattle.search.specs.declared.Scored.{Scored}
use Rattle.exact.specs.Spots.{Corner, spot}
use Rattle.exact.specs.Terms.{narrower}
use Rattle.search.specs.Places.{Placed}

-- the first place of a corner whose product with d none exceeds, with that product
abbrev pub Farthest : List Corner → Pt → Option (Scored ℕ Product) → Type 0
Farthest cs d r = Placed (λ (x y : Product). int_le x.0 y.0) (λ c. record { 0 = dot d (spot c) }) cs r

-- the first place of a gap than which none is narrower, with that gap
abbrev pub Narrowest : List Gap → Option (Scored ℕ Gap) → Type 0
Narrowest gs r = Placed (λ (x y : Gap). not (narrower x y)) (λ g. g) gs r
