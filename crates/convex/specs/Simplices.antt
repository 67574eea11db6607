-- The point nearest to the origin of the line, plane or space through one to four points, by weights of any sign.
use Rattle.std.specs.Prelude.{◌≡◌, ◌≤◌, List, [], ◌∷◌, length, ℤ, pos, negsuc, ◌-ℤ◌, ◌*ℤ◌, neg_ℤ, ◌<ℤ◌, unsigned_abs}
use Rattle.std.specs.List.{ContainsAt as Has, AllByRecursion}
use Rattle.integers.specs.Points.{Pt, ◌+ᵛ◌, ◌-ᵛ◌, ◌·ᵛ◌, dot, cross, det, origin}
use Rattle.convex.specs.Fractions.{Frac, ◌÷◌}
use Rattle.convex.specs.Hulls.{comb, totalℤ, Shortest}

-- x is the foot of the perpendicular from the origin to the affine hull of ys, and m are its weights
pub record Foot (ys : List Pt) (m : List ℤ) (x : Frac) : Type 0 where
  pub one_each : length m ≡ length ys
  pub sum : x.point ≡ comb m ys
  pub whole : x.over ≡ totalℤ m
  pub level : AllByRecursion (λ y. x.over *ℤ dot x.point y ≡ dot x.point x.point) ys

-- twice the area of the triangle, on its normal
abbrev pub normal : Pt → Pt → Pt → Pt
normal a b c = cross a b +ᵛ cross b c +ᵛ cross c a

-- six times the volume of the tetrahedron, with a sign
abbrev pub volume : Pt → Pt → Pt → Pt → ℤ
volume a b c d = dot (normal a b c) d -ℤ det a b c

-- 1, or −1 below zero
abbrev pub sign : ℤ → ℤ
sign (pos n) = pos 1
sign (negsuc n) = negsuc 0

-- the weights of the foot
abbrev pub weights : List Pt → List ℤ
weights [] = []
weights (a ∷ []) = pos 1 ∷ []
weights (a ∷ (b ∷ [])) = let e = b -ᵛ a in dot b e ∷ neg_ℤ (dot a e) ∷ []
weights (a ∷ (b ∷ (c ∷ []))) = let n = normal a b c in dot n (cross b c) ∷ dot n (cross c a) ∷ dot n (cross a b) ∷ []
weights (a ∷ (b ∷ (c ∷ (d ∷ [])))) =
    let s = sign (volume a b c d) in
    (s *ℤ det b c d) ∷ neg_ℤ (s *ℤ det a c d) ∷ (s *ℤ det a b d) ∷ neg_ℤ (s *ℤ det a b c) ∷ []
weights (a ∷ (b ∷ (c ∷ (d ∷ (e ∷ ys))))) = []

-- the sum of the points by these weights
abbrev pub foot : List Pt → Pt
foot [] = origin
foot (a ∷ []) = a
foot (a ∷ (b ∷ [])) = let e = b -ᵛ a in dot b e ·ᵛ a -ᵛ dot a e ·ᵛ b
foot (a ∷ (b ∷ (c ∷ []))) = det a b c ·ᵛ normal a b c
foot (a ∷ (b ∷ (c ∷ (d ∷ ys)))) = origin

-- the total of the weights: positive where the points are affinely independent, and else zero
abbrev pub extent : List Pt → ℤ
extent [] = pos 0
extent (a ∷ []) = pos 1
extent (a ∷ (b ∷ [])) = let e = b -ᵛ a in dot e e
extent (a ∷ (b ∷ (c ∷ []))) = let n = normal a b c in dot n n
extent (a ∷ (b ∷ (c ∷ (d ∷ [])))) = pos (unsigned_abs (volume a b c d))
extent (a ∷ (b ∷ (c ∷ (d ∷ (e ∷ ys))))) = pos 0

-- the foot itself, as a fraction
abbrev pub footing : List Pt → Frac
footing S = foot S ÷ extent S

-- S are one to four affinely independent points
pub record Independent (S : List Pt) : Type 0 where
  pub some : 1 ≤ length S
  pub few : length S ≤ 4
  pub apart : pos 0 <ℤ extent S

-- S is the part of ys whose foot is the shortest mean of ys: independent points, with positive weights
pub record Carries (S ys : List Pt) : Type 0 where
  pub among : AllByRecursion (Has ys) S
  pub independent : Independent S
  pub inside : AllByRecursion (λ k. pos 0 <ℤ k) (weights S)
  pub shortest : Shortest ys (footing S)
