-- Fractions in lowest terms.
use Rattle.std.specs.Prelude.{List, [], ◌∷◌, map, ℤ, unsigned_abs}
use Rattle.integers.specs.Divisors.{Coprime}
use Rattle.convex.specs.Fractions.{Frac}

-- the four numbers of x
abbrev pub terms : Frac → List ℤ
terms x = x.point.x ∷ x.point.y ∷ x.point.z ∷ x.over ∷ []

-- no number above 1 divides all four
abbrev pub InLowestTerms : Frac → Type 0
InLowestTerms x = Coprime (map unsigned_abs (terms x))
