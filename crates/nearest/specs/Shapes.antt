-- What a simplex carries, and the better of two carriers.
use Rattle.std.specs.Prelude.{◌≡◌, ◌⊎◌, List, [], ◌∷◌, ◌++◌, ℤ, pos, ◌*ℤ◌, ◌≤ℤ◌, ◌<ℤ◌, Option, Some, None}
use Rattle.std.specs.List.{ContainsAt as Has, AllByRecursion}
use Rattle.integers.specs.Points.{dot}
use Rattle.convex.specs.Fractions.{Frac, ◌÷◌, NoLonger}
use Rattle.convex.specs.Means.{Mean}
use Rattle.convex.specs.Simplices.{weights, Carries}
use Rattle.nearest.specs.declared.pair.Pair.{Pair}
use Rattle.nearest.specs.declared.carrier.Carrier.{Carrier}
use Rattle.nearest.specs.Vectors.{to}
use Rattle.nearest.specs.Pairs.{between, betweens}
use Rattle.nearest.specs.Simplices.{pairs, points}

-- the point that c carries
abbrev pub carried : Carrier → Frac
carried c = to c.foot ÷ c.extent

-- c has some of the pairs vs, and its foot is the shortest mean of all
pub record Carried (vs : List Pair) (c : Carrier) : Type 0 where
  pub among : AllByRecursion (Has vs) (pairs c.simplex)
  pub carries : Carries (points c.simplex) (betweens vs)

-- what a face of vs carries for all of vs, or nothing, where all weights are positive
abbrev pub ByFaces : List Pair → Option Carrier → Type 0
ByFaces vs None = AllByRecursion (λ k. pos 0 <ℤ k) (weights (betweens vs))
ByFaces vs (Some c) = Carried vs c

-- the shorter of c and d
pub record Lesser (c d r : Carrier) : Type 0 where
  pub from : (r ≡ c) ⊎ (r ≡ d)
  pub left : NoLonger (carried r) (carried c)
  pub right : NoLonger (carried r) (carried d)

-- c, or what the pairs vs carry where that is shorter; where k ≤ 0 no mean of vs is shorter
pub record Better (k : ℤ) (vs : List Pair) (c r : Carrier) : Type 0 where
  pub from : (r ≡ c) ⊎ Carried vs r
  pub older : NoLonger (carried r) (carried c)
  pub newer : k ≤ℤ pos 0 → (y : Frac) → Mean (betweens vs) y → NoLonger (carried r) y

-- the better of the best so far and of vs, which counts where k ≤ 0
abbrev pub Chosen : ℤ → List Pair → Option Carrier → Option Carrier → Type 0
Chosen k vs None None = pos 0 <ℤ k
Chosen k vs None (Some r) = (k ≤ℤ pos 0) × Carried vs r
Chosen k vs (Some c) None = ⊥
Chosen k vs (Some c) (Some r) = Better k vs c r

-- what the pairs of c carry together with w, or nothing where the difference of w does not lie on the near side of what c carries
abbrev pub Grown : Carrier → Pair → Option Carrier → Type 0
Grown c w None = dot (to c.foot) (to c.foot) ≤ℤ (c.extent *ℤ dot (to c.foot) (between w))
Grown c w (Some r) = ((c.extent *ℤ dot (to c.foot) (between w)) <ℤ dot (to c.foot) (to c.foot)) × Carried (pairs c.simplex ++ w ∷ []) r
