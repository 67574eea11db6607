-- The shortest mean of one list of points, its farthest corners, and sums with weights of any sign.
use Rattle.std.specs.Prelude.{◌≡◌, ℕ, zero, suc, ◌*◌, ◌/◌, List, [], ◌∷◌, ℤ, pos, ◌+ℤ◌, ◌≤ℤ◌, Ok, Err, Result, unsigned_abs}
use Rattle.std.specs.List.{ContainsAt as Has, AllByRecursion}
use Rattle.integers.specs.Points.{Pt, ◌+ᵛ◌, ◌-ᵛ◌, ◌·ᵛ◌, dot, origin}
use Rattle.convex.specs.Fractions.{Frac, NoLonger}
use Rattle.convex.specs.Means.{Mean}

-- x is a mean of ys, and none is shorter
pub record Shortest (ys : List Pt) (x : Frac) : Type 0 where
  pub reached : Mean ys x
  pub least : (y : Frac) → Mean ys y → NoLonger x y

-- y is a difference of corners of A and B
pub record Between (A B : List Pt) (y : Pt) : Type 0 where
  pub a : Pt
  pub b : Pt
  pub in_a : Has A a
  pub in_b : Has B b
  pub is : y ≡ a -ᵛ b

-- p is one of ps, and none of them has a larger product with d
pub record Farthest (ps : List Pt) (d p : Pt) : Type 0 where
  pub one : Has ps p
  pub most : AllByRecursion (λ x. dot d x ≤ℤ dot d p) ps

-- the answer to the question for a farthest corner: one of the body's, by where it lies, or the slip by which the body refuses
abbrev pub Found : {C E : Type 0} → (C → Pt) → Result (List Pt) E → Pt → Result C E → Type 0
Found lies (Ok ps) d (Ok c) = Farthest ps d (lies c)
Found lies (Ok ps) d (Err e) = ⊥
Found lies (Err s) d (Ok c) = ⊥
Found lies (Err s) d (Err e) = e ≡ s

-- all but the one at i
abbrev pub without : {X : Type 0} → ℕ → List X → List X
without i [] = []
without zero (x ∷ xs) = xs
without (suc i) (x ∷ xs) = x ∷ without i xs

-- Σ kᵢ yᵢ
abbrev pub comb : List ℤ → List Pt → Pt
comb [] ys = origin
comb (k ∷ ks) [] = origin
comb (k ∷ ks) (y ∷ ys) = k ·ᵛ y +ᵛ comb ks ys

-- Σ kᵢ
abbrev pub totalℤ : List ℤ → ℤ
totalℤ [] = pos 0
totalℤ (k ∷ ks) = k +ℤ totalℤ ks

-- a natural that falls with the length of x, among the x that are over B at most
abbrev pub measure : ℕ → Frac → ℕ
measure B x = unsigned_abs (dot x.point x.point) * (B * B * (B * B)) / (unsigned_abs x.over * unsigned_abs x.over)
