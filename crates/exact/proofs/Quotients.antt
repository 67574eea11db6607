-- Quotients by a common divisor: that they fit 64 bits, and that the divisor does.
use Rattle.std.proofs.Common.{◌≡◌, ℕ, suc, ◌^◌, ◌<◌, ◌≤◌, ℤ, pos, negsuc, ◌*ℤ◌, nat_abs, ◌<ℤ◌, sym, ap, ◌∙◌, subst, ap₂, subst₂, div-le_self, arith, w64, SFits, to_z, of_z}
use lib.IntN.{*ℤ-zero}
use lib.Signed.{quot_z}
use Rattle.std.proofs.lemmas.Int.{ints, to_z-of_z, to_z_pos}
use Rattle.integers.specs.Divisors.{Divides}
use Rattle.integers.proofs.Order.{*ℤ_cancel<}
use Rattle.integers.proofs.Divisors.{quot_z_exact, divides_pos, divides_le}

quot_fits : (x : ℤ) (b : ℕ) → SFits w64 x → SFits w64 (quot_z x (pos b))
quot_fits (pos a) b f = omega (arith, ints, f, div-le_self a b)
quot_fits (negsuc a) b f = omega (arith, ints, f, div-le_self (suc a) b)

-- what the code computes of x by b
pub divided_is : (x : ℤ) (b : ℕ) → SFits w64 x → 0 < b → b < 2 ^ 63 → Divides b (nat_abs x) → x ≡ pos b *ℤ to_z w64 (of_z w64 (quot_z (to_z w64 (of_z w64 x)) (to_z w64 b)))
divided_is x b f h l d =
    sym (ap (λ t. pos b *ℤ to_z w64 (of_z w64 t)) (ap₂ quot_z (to_z-of_z w64 x f) (to_z_pos w64 b l))
    ∙ ap (λ t. pos b *ℤ t) (to_z-of_z w64 (quot_z x (pos b)) (quot_fits x b f))
    ∙ quot_z_exact x b h d)

-- a divisor of a number is one of it as it is passed on
pub divides-kept : (g : ℕ) (x : ℤ) → SFits w64 x → Divides g (nat_abs x) → Divides g (nat_abs (to_z w64 (of_z w64 x)))
divides-kept g x f d = subst (λ t. Divides g (nat_abs t)) (sym (to_z-of_z w64 x f)) d

-- a divisor of a positive number is positive, and fits where the number does
pub divisor_pos : (g : ℕ) (w : ℤ) → pos 0 <ℤ w → Divides g (nat_abs w) → 0 < g
divisor_pos g w h d = divides_pos g (nat_abs w) (omega (arith, ints)) d

pub divisor_small : (g : ℕ) (w : ℤ) → pos 0 <ℤ w → SFits w64 w → Divides g (nat_abs w) → g < 2 ^ 63
divisor_small g w h f d = let l : g ≤ nat_abs w = divides_le g (nat_abs w) (omega (arith, ints)) d in omega (arith, ints)

-- x = g r, of values that were passed on
pub factor-kept : (g : ℕ) (x r : ℤ) → SFits w64 x → SFits w64 r → to_z w64 (of_z w64 x) ≡ pos g *ℤ r → x ≡ pos g *ℤ to_z w64 (of_z w64 r)
factor-kept g x r f h e = sym (to_z-of_z w64 x f) ∙ e ∙ ap (λ t. pos g *ℤ t) (sym (to_z-of_z w64 r h))

-- what is left of a positive number is positive
pub quotient_pos : (g : ℕ) (x r : ℤ) → pos 0 <ℤ x → x ≡ pos g *ℤ r → pos 0 <ℤ r
quotient_pos g x r h e = *ℤ_cancel< (pos g) (omega (arith, ints)) (subst₂ (λ a b. a <ℤ b) (sym (*ℤ-zero (pos g))) e h)
