-- The numbers of fractions and gaps, their bounds, and the order of gaps.
use Rattle.std.specs.Prelude.{◌≡◌, ℕ, ◌*◌, ◌<◌, ◌≤◌, Bool, List, [], ◌∷◌, ℤ, pos, ◌<ℤ◌, Some, None, Option}
use Rattle.std.specs.declared.cmp.Ordering.{Ordering}
use Rattle.std.specs.Ordering.{nat_cmp, is_lt}
use Rattle.exact.specs.declared.point.Point.{Point}
use Rattle.exact.specs.declared.fraction.Fraction.{Fraction}
use Rattle.exact.specs.declared.gap.Gap.{Gap}

-- the four numbers of a point over a number
abbrev pub terms : Fraction → List ℤ
terms x = x.point.x ∷ x.point.y ∷ x.point.z ∷ x.over ∷ []

-- the two numbers of a gap
abbrev pub parts : Gap → List ℤ
parts g = pos g.p ∷ pos g.q ∷ []

-- how g and h compare as fractions: by cross products
abbrev pub crossed : Gap → Gap → Ordering
crossed g h = nat_cmp (g.p * h.q) (h.p * g.q)

-- as fractions g < h
abbrev pub narrower : Gap → Gap → Bool
narrower g h = is_lt (crossed g h)

-- the point over the number exactly when the number is at least 1
abbrev pub OverPositive : Point → ℤ → Option Fraction → Type 0
OverPositive p w None = pos 0 <ℤ w → ⊥
OverPositive p w (Some x) = (x.point ≡ p) × (x.over ≡ w)

-- p / q exactly when the two keep to the bounds of a measured gap
abbrev pub InBounds : ℕ → ℕ → Option Gap → Type 0
InBounds p q None = p ≤ 18000000000 → 0 < q → q ≤ 120000000 → ⊥
InBounds p q (Some g) = (g.p ≡ p) × (g.q ≡ q)
