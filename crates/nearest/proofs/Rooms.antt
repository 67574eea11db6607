-- Products of bounded points and numbers: their environments for `Overflow`, and that they fit 64 bits.
use Rattle.std.proofs.Common.{◌≡◌, ℕ, ◌+◌, ◌*◌, ◌^◌, ◌<◌, ◌≤◌, Bool, true, false, T, ltb, leb, List, [], ℤ, nat_abs, arith, ltb→lt, lt→ltb, leb→le}
use Rattle.integers.specs.Points.{Pt}
use Rattle.integers.specs.Space.{Near}
use Rattle.integers.proofs.Overflow.{Bv, both}
use Rattle.integers.proofs.Environments.{num, point}
use Rattle.convex.proofs.Sizes.{near_by, wider}
use Rattle.nearest.specs.Room.{Room, Scale}

-- the factors of a product of points, or of a number and a point
abbrev pub room : {a b : Pt} → Room a b → List Bv
room {a} {b} h = point a h.left_in (point b h.right_in [])

abbrev pub scale : {k : ℤ} {a : Pt} → Scale k a → List Bv
scale {k} {a} h = point a h.right_in (num k h.left_in [])

-- ---- no part of the product overflows
both_of : (b c : Bool) → T b → T c → T (both b c)
both_of true c s t = t
both_of false c s t = s

-- one product of numbers within l and r, the sum of two, and of three
module _ (l r : ℕ) (p : l < 2 ^ 63) (q : r < 2 ^ 63) where
  abbrev One : Bool
  One = both (ltb (l * r) (2 ^ 63)) (both (ltb l (2 ^ 63)) (ltb r (2 ^ 63)))

  abbrev Two : Bool
  Two = both (ltb (l * r + l * r) (2 ^ 63)) (both One One)

  abbrev Three : Bool
  Three = both (ltb (l * r + l * r + l * r) (2 ^ 63)) (both Two One)

  pub one : l * r < 2 ^ 63 → T One
  one h = both_of _ _ (lt→ltb _ _ h) (both_of _ _ (lt→ltb _ _ p) (lt→ltb _ _ q))

  pub two : l * r + l * r < 2 ^ 63 → T Two
  two h = let o = one (omega arith) in both_of _ _ (lt→ltb _ _ h) (both_of _ _ o o)

  pub three : l * r + l * r + l * r < 2 ^ 63 → T Three
  three h = let o = one (omega arith) in let t = two (omega arith) in both_of _ _ (lt→ltb _ _ h) (both_of _ _ t o)

-- so with the bounds of a room or a scale
pub one-fits : {a b : Pt} (h : Room a b) → T (One h.left h.right h.left_fits h.right_fits)
one-fits h = one h.left h.right h.left_fits h.right_fits (omega (arith, h.fits))

pub two_fit : {a b : Pt} (h : Room a b) → T (Two h.left h.right h.left_fits h.right_fits)
two_fit h = two h.left h.right h.left_fits h.right_fits (omega (arith, h.fits))

pub three_fit : {a b : Pt} (h : Room a b) → T (Three h.left h.right h.left_fits h.right_fits)
three_fit h = three h.left h.right h.left_fits h.right_fits h.fits

pub scale-fits : {k : ℤ} {a : Pt} (h : Scale k a) → T (One h.left h.right h.left_fits h.right_fits)
scale-fits h = one h.left h.right h.left_fits h.right_fits h.fits

-- ---- rooms and scales, by numerals
pub roomy : (l r : ℕ) {a b : Pt} → Near l a → Near r b → T (ltb (l * r + l * r + l * r) (2 ^ 63)) → T (ltb l (2 ^ 63)) → T (ltb r (2 ^ 63)) → Room a b
roomy l r h k s t u = record { left = l; right = r; left_in = h; right_in = k; left_fits = ltb→lt _ _ t; right_fits = ltb→lt _ _ u; fits = ltb→lt _ _ s }

pub scaly : (l r : ℕ) {k : ℤ} {a : Pt} → nat_abs k ≤ l → Near r a → T (ltb (l * r) (2 ^ 63)) → T (ltb l (2 ^ 63)) → T (ltb r (2 ^ 63)) → Scale k a
scaly l r h k s t u = record { left = l; right = r; left_in = h; right_in = k; left_fits = ltb→lt _ _ t; right_fits = ltb→lt _ _ u; fits = ltb→lt _ _ s }

-- with room for a sum
pub wide_by : {m : ℕ} {p q : Pt} → p ≡ q → Near m q → T (leb m (2 ^ 60)) → Near (2 ^ 60) p
wide_by {q = q} e h t = near_by e (wider (2 ^ 60) q (leb→le _ _ t) h)
