-- Bounded numbers and points as environments for `Overflow`.
use Rattle.std.proofs.Common.{ℕ, ◌≤◌, List, ◌∷◌, ℤ, pos, negsuc, nat_abs, arith}
use Rattle.std.proofs.lemmas.Int.{ints}
use Rattle.integers.specs.Points.{Pt}
use Rattle.integers.specs.Space.{Near}
use Rattle.integers.specs.Bounds.{Bound}
use Rattle.integers.proofs.Overflow.{Bv, bv}

-- |x| ≤ n, and the two sides of it
pub bound_of : (n : ℕ) (x : ℤ) → nat_abs x ≤ n → Bound (pos n) x
bound_of n (pos x) h = record { low = omega (arith, ints); high = omega (arith, ints) }
bound_of n (negsuc x) h = record { low = omega (arith, ints); high = omega (arith, ints) }

pub of_bound : (n : ℕ) (x : ℤ) → Bound (pos n) x → nat_abs x ≤ n
of_bound n (pos x) h = omega (arith, ints, h.low, h.high)
of_bound n (negsuc x) h = omega (arith, ints, h.low, h.high)

-- a number, or the three of a point, before others
abbrev pub num : {n : ℕ} (x : ℤ) → nat_abs x ≤ n → List Bv → List Bv
num {n} x h ρ = bv (bound_of n x h) ∷ ρ

abbrev pub point : {n : ℕ} (p : Pt) → Near n p → List Bv → List Bv
point p h ρ = num p.x h.0 (num p.y h.1 (num p.z h.2 ρ))
