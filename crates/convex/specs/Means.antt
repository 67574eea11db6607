-- Weighted means of the corners of two bodies, and the one of their differences that is nearest to the origin. A body is the list of its corners.
use Rattle.std.specs.Prelude.{◌≡◌, ℕ, ◌+◌, ◌<◌, ◌⊎◌, List, [], ◌∷◌, length, pos, ◌*ℤ◌, ◌≤ℤ◌, ◌<ℤ◌}
use Rattle.std.specs.List.{AllByRecursion}
use Rattle.integers.specs.Points.{Pt, ◌+ᵛ◌, ◌-ᵛ◌, ◌·ᵛ◌, dot, origin}
use Rattle.convex.specs.Fractions.{Frac, ◌÷◌, Same, Longer, ◌less◌}

-- Σ uᵢ yᵢ
abbrev pub sum_of : List ℕ → List Pt → Pt
sum_of [] ys = origin
sum_of (k ∷ u) [] = origin
sum_of (k ∷ u) (y ∷ ys) = pos k ·ᵛ y +ᵛ sum_of u ys

-- Σ uᵢ
abbrev pub total : List ℕ → ℕ
total [] = 0
total (k ∷ u) = k + total u

-- one whole weight of zero or more for each point, not all zero
pub record Weights (ys : List Pt) : Type 0 where
  pub each : List ℕ
  pub one_each : length each ≡ length ys
  pub some : 0 < total each

-- Σ uᵢ yᵢ / Σ uᵢ
abbrev pub mean_of : {ys : List Pt} → Weights ys → Frac
mean_of {ys} w = sum_of w.each ys ÷ pos (total w.each)

-- x is a weighted mean of ys: a point of their convex hull
pub record Mean (ys : List Pt) (x : Frac) : Type 0 where
  pub by : Weights ys
  pub positive : pos 0 <ℤ x.over
  pub value : Same x (mean_of by)

-- x is a weighted mean of A less one of B
pub record Difference (A B : List Pt) (x : Frac) : Type 0 where
  pub left : Weights A
  pub right : Weights B
  pub positive : pos 0 <ℤ x.over
  pub value : Same x (mean_of left less mean_of right)

-- x is the difference that is nearest to the origin: any other is longer
pub record Nearest (A B : List Pt) (x : Frac) : Type 0 where
  pub reached : Difference A B x
  pub least : (y : Frac) → Difference A B y → Same x y ⊎ Longer y x

-- no difference of corners lies on the near side of the plane through x = D / W across D: D · D ≤ W D · (a − b)
abbrev pub StoppingTest : List Pt → List Pt → Frac → Type 0
StoppingTest A B x = AllByRecursion (λ a. AllByRecursion (λ b. dot x.point x.point ≤ℤ (x.over *ℤ dot x.point (a -ᵛ b))) B) A
