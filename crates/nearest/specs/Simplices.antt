-- What a simplex of the code means: a list of differences of corners.
use Rattle.std.specs.Prelude.{List, [], ◌∷◌}
use Rattle.integers.specs.Points.{Pt}
use Rattle.nearest.specs.declared.pair.Pair.{Pair}
use Rattle.nearest.specs.declared.simplex.Simplex.{Simplex}
use Rattle.nearest.specs.declared.simplex.Simplex.TheVariants.{One, Two, Three, Four}
use Rattle.nearest.specs.Pairs.{betweens}

-- its pairs
abbrev pub pairs : Simplex → List Pair
pairs (One a) = a ∷ []
pairs (Two s) = s.a ∷ s.b ∷ []
pairs (Three s) = s.a ∷ s.b ∷ s.c ∷ []
pairs (Four s) = s.a ∷ s.b ∷ s.c ∷ s.d ∷ []

-- its corners, the differences of the pairs
abbrev pub points : Simplex → List Pt
points s = betweens (pairs s)
