-- What is reported of the simplex at which a search ended.
use Rattle.std.specs.Prelude.{◌≡◌, ◌-◌, List, [], ◌∷◌, ◌++◌, length, replicate, ℤ}
use Rattle.integers.specs.Divisors.{Reduced}
use Rattle.convex.specs.Fractions.{SquareOf}
use Rattle.convex.specs.Simplices.{weights}
use Rattle.convex.specs.Lowest.{terms}
use Rattle.exact.specs.Terms.{parts}
use Rattle.nearest.specs.declared.pair.Pair.{Pair}
use Rattle.nearest.specs.declared.carrier.Carrier.{Carrier}
use Rattle.nearest.specs.declared.measurement.Witness.{Witness}
use Rattle.nearest.specs.declared.measurement.Measurement.{Measurement}
use Rattle.nearest.specs.Simplices.{pairs, points}
use Rattle.nearest.specs.Shapes.{carried}
use Rattle.nearest.specs.Measurements.{reported, blank}

-- a pair with a weight
abbrev pub weighed : Pair → ℤ → Witness
weighed v k = record { first = v.first; second = v.second; weight = k }

-- each pair with its weight
abbrev pub listed : List Pair → List ℤ → List Witness
listed [] ks = []
listed (v ∷ vs) [] = []
listed (v ∷ vs) (k ∷ ks) = weighed v k ∷ listed vs ks

-- with blank ones after them, four
abbrev pub padded : List Witness → List Witness
padded ws = ws ++ replicate (4 - length ws) blank

-- m reports c in lowest terms
pub record Told (c : Carrier) (m : Measurement) : Type 0 where
  pub fraction : Reduced (terms (carried c)) (terms (reported m))
  pub gap : ℤ
  pub square : SquareOf (carried c) gap c.extent
  pub ratio : Reduced (gap ∷ c.extent ∷ []) (parts m.gap)
  pub witnesses : m.witnesses ≡ padded (listed (pairs c.simplex) (weights (points c.simplex)))
