-- The sign of the volume in the weights of four points.
use Rattle.std.proofs.Common.{◌≡◌, true, false, [], ◌∷◌, ℤ, pos, negsuc, ◌-ℤ◌, ◌*ℤ◌, neg_ℤ, refl, ap, ◌∙◌, arith}
use lib.Signed.{lt_z}
use Rattle.std.proofs.lemmas.Int.{ints}
use Rattle.integers.proofs.Solver.{var, con, neg, ◌⊗◌, ◌⊖◌, solve}
use Rattle.convex.specs.Simplices.{sign}

-- a test of the volume tells its sign
of_negative : (v : ℤ) → lt_z v (pos 0) ≡ true → sign v ≡ negsuc 0
of_negative (pos n) h = absurd (omega (arith, ints))
of_negative (negsuc n) h = refl

of_others : (v : ℤ) → lt_z v (pos 0) ≡ false → sign v ≡ pos 1
of_others (pos n) h = refl
of_others (negsuc n) h = absurd (omega (arith, ints))

pub sign_minus : {v w : ℤ} → v ≡ w → lt_z w (pos 0) ≡ true → sign v ≡ negsuc 0
sign_minus e h = ap sign e ∙ of_negative _ h

pub sign_plus : {v w : ℤ} → v ≡ w → lt_z w (pos 0) ≡ false → sign v ≡ pos 1
sign_plus e h = ap sign e ∙ of_others _ h

-- −x, as the code computes it
pub neg_is : (x : ℤ) → neg_ℤ x ≡ pos 0 -ℤ x
neg_is x = omega (arith, ints)

-- a number with the sign, and with the other one
pub once_neg : (s : ℤ) → s ≡ negsuc 0 → (x : ℤ) → s *ℤ x ≡ pos 0 -ℤ x
once_neg s e x = ap (λ t. t *ℤ x) e ∙ solve (x ∷ []) (con (negsuc 0) ⊗ var 0) (con (pos 0) ⊖ var 0) refl

pub twice_neg : (s : ℤ) → s ≡ negsuc 0 → (x : ℤ) → neg_ℤ (s *ℤ x) ≡ x
twice_neg s e x = ap (λ t. neg_ℤ (t *ℤ x)) e ∙ solve (x ∷ []) (neg (con (negsuc 0) ⊗ var 0)) (var 0) refl

pub once : (s : ℤ) → s ≡ pos 1 → (x : ℤ) → s *ℤ x ≡ x
once s e x = ap (λ t. t *ℤ x) e ∙ solve (x ∷ []) (con (pos 1) ⊗ var 0) (var 0) refl

pub neg_once : (s : ℤ) → s ≡ pos 1 → (x : ℤ) → neg_ℤ (s *ℤ x) ≡ pos 0 -ℤ x
neg_once s e x = ap (λ t. neg_ℤ (t *ℤ x)) e ∙ solve (x ∷ []) (neg (con (pos 1) ⊗ var 0)) (con (pos 0) ⊖ var 0) refl
