-- What a pair of the code means: the difference of its corners.
use Rattle.std.specs.Prelude.{List, [], ◌∷◌}
use Rattle.integers.specs.Points.{Pt, ◌-ᵛ◌}
use Rattle.exact.specs.Spots.{spot}
use Rattle.nearest.specs.declared.pair.Pair.{Pair}

-- the difference of the two corners
abbrev pub between : Pair → Pt
between v = spot v.first -ᵛ spot v.second

-- of each pair
abbrev pub betweens : List Pair → List Pt
betweens [] = []
betweens (v ∷ vs) = between v ∷ betweens vs
