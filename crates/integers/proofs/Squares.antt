-- Squares of points: never negative, zero only of the origin, and the inequality of Cauchy and Schwarz.
use Rattle.std.proofs.Common.{◌≡◌, [], ◌∷◌, ℤ, pos, ◌-ℤ◌, ◌*ℤ◌, ◌≤ℤ◌, refl, arith}
use Rattle.std.proofs.lemmas.Int.{ints}
use Rattle.integers.specs.Points.{Pt, ◌-ᵛ◌, dot}
use Rattle.integers.proofs.Solver.{◌⊗◌}
use Rattle.integers.proofs.Vectors.{dot_e, cross_e, pt, pts}
use Rattle.integers.proofs.Certs.{prove≤, sq}
use Rattle.integers.proofs.Order.{sq_nonneg, sq_zero}

pub dot_nonneg : (a : Pt) → pos 0 ≤ℤ dot a a
dot_nonneg a = omega (arith, ints, sq_nonneg a.x, sq_nonneg a.y, sq_nonneg a.z)

pub dot_zero : (a b : Pt) → dot (a -ᵛ b) (a -ᵛ b) ≤ℤ pos 0 → a ≡ b
dot_zero a b h i = record {
  x = same a.x b.x (sq_zero (a.x -ℤ b.x) (omega (arith, ints, sq_nonneg (a.y -ℤ b.y), sq_nonneg (a.z -ℤ b.z)))) i;
  y = same a.y b.y (sq_zero (a.y -ℤ b.y) (omega (arith, ints, sq_nonneg (a.x -ℤ b.x), sq_nonneg (a.z -ℤ b.z)))) i;
  z = same a.z b.z (sq_zero (a.z -ℤ b.z) (omega (arith, ints, sq_nonneg (a.x -ℤ b.x), sq_nonneg (a.y -ℤ b.y)))) i;
}
  where
    same : (a b : ℤ) → a -ℤ b ≡ pos 0 → a ≡ b
    same a b e = omega (arith, ints)

-- the inequality of Cauchy and Schwarz
pub cauchy : (a b : Pt) → (dot a b *ℤ dot a b) ≤ℤ (dot a a *ℤ dot b b)
cauchy a b =
    let A = pt 0 in let B = pt 1 in let C = cross_e A B in
    prove≤ (pts (a ∷ b ∷ []) []) (dot_e A B ⊗ dot_e A B) (dot_e A A ⊗ dot_e B B) (sq C.x ∷ sq C.y ∷ sq C.z ∷ []) refl
