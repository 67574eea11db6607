-- The measure falls as a fraction gets shorter, as long as it is over B at most.
use Rattle.std.proofs.Common.{◌≡◌, ℕ, suc, ◌*◌, ◌/◌, ◌<◌, ◌≤◌, ℤ, pos, negsuc, ◌*ℤ◌, nat_abs, ◌≤ℤ◌, ◌<ℤ◌, ap, ap₂, subst₂, mul-le-mul, mul-le-mul_left, mul-pos, le-div_iff_mul-le, arith, ltb→lt, leb→le}
use native.Mathlib.Nat.{mul-div-le, le_of_mul-le-mul_left}
use Rattle.integers.specs.Points.{Pt, dot}
use Rattle.integers.proofs.Order.{<ℤ→≤ℤ}
use Rattle.integers.proofs.Squares.{dot_nonneg}
use Rattle.convex.specs.Fractions.{Frac, Shorter}
use Rattle.convex.specs.Hulls.{measure}
use Rattle.convex.proofs.Combs.{natural}

-- p / a < q / b, and M ≥ a b: then even the quotients of p M and q M are apart
quotients< : (p q a b M : ℕ) → 0 < a → 0 < b → a * b ≤ M → p * b < q * a → p * M / a < q * M / b
quotients< p q a b M ha hb hM h = (le-div_iff_mul-le hb).1 (le_of_mul-le-mul_left (over (p * M / a) (mul-div-le (p * M) a)) ha)
  where
    over : (x : ℕ) → a * x ≤ p * M → a * (suc x * b) ≤ a * (q * M)
    over x k = omega (arith, mul-le-mul_left b k, mul-le-mul_left M h)

-- integers as naturals
natural> : (z : ℤ) → pos 0 <ℤ z → 0 < nat_abs z
natural> (pos n) h = ltb→lt 0 n h.lt
natural> (negsuc n) h = absurd h.lt

natural≤ : (z : ℤ) (B : ℕ) → pos 0 <ℤ z → z ≤ℤ pos B → nat_abs z ≤ B
natural≤ (pos n) B h k = leb→le n B k.le
natural≤ (negsuc n) B h k = absurd h.lt

-- the shorter has the lesser measure
pub measure_falls : (B : ℕ) (x y : Frac) → pos 0 <ℤ x.over → pos 0 <ℤ y.over → x.over ≤ℤ pos B → y.over ≤ℤ pos B → Shorter x y → measure B x < measure B y
measure_falls B x y v w v≤ w≤ s =
    quotients< (nat_abs (dot x.point x.point)) (nat_abs (dot y.point y.point)) (nat_abs x.over * nat_abs x.over) (nat_abs y.over * nat_abs y.over) (B * B * (B * B)) (square> v) (square> w)
    (mul-le-mul (square≤ v v≤) (square≤ w w≤)) (ltb→lt _ _ (subst₂ ◌<ℤ◌ (side x.point y.over w) (side y.point x.over v) s).lt)
  where
    square> : {z : ℤ} → pos 0 <ℤ z → 0 < nat_abs z * nat_abs z
    square> {z} h = mul-pos (natural> z h) (natural> z h)

    square≤ : {z : ℤ} → pos 0 <ℤ z → z ≤ℤ pos B → nat_abs z * nat_abs z ≤ B * B
    square≤ {z} h k = mul-le-mul (natural≤ z B h k) (natural≤ z B h k)

    side : (N : Pt) (d : ℤ) → pos 0 <ℤ d → dot N N *ℤ (d *ℤ d) ≡ pos (nat_abs (dot N N) * (nat_abs d * nat_abs d))
    side N d h = ap₂ ◌*ℤ◌ (natural (dot N N) (dot_nonneg N)) (ap (λ t. t *ℤ t) (natural d (<ℤ→≤ℤ h)))
