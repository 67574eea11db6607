-- The order of ℤ against sums and products.
use Rattle.std.proofs.Common.{◌≡◌, zero, suc, ◌*◌, List, [], ◌∷◌, ℤ, pos, negsuc, ◌+ℤ◌, ◌-ℤ◌, ◌*ℤ◌, neg_ℤ, ◌≤ℤ◌, ◌<ℤ◌, sym, refl, zero-le, arith, le→leb, lt→ltb, leb→le}
use lib.Signed.{clash_ℤ}
use Rattle.std.proofs.lemmas.Int.{ints, by_lt_z}
use Rattle.integers.specs.Bounds.{Bound}
use Rattle.integers.proofs.Solver.{Exp, var, con, ◌⊕◌, ◌⊗◌, ◌⊖◌, eval, residue, nil, solve}

-- ---- the order itself
pub ≤ℤ_trans : {a b c : ℤ} → a ≤ℤ b → b ≤ℤ c → a ≤ℤ c
≤ℤ_trans h k = omega (arith, ints)

pub ≤ℤ_antisym : {a b : ℤ} → a ≤ℤ b → b ≤ℤ a → a ≡ b
≤ℤ_antisym h k = omega (arith, ints)

pub <ℤ→≤ℤ : {a b : ℤ} → a <ℤ b → a ≤ℤ b
<ℤ→≤ℤ h = omega (arith, ints)

pub ≤ℤ_of_≡ : {a b : ℤ} → a ≡ b → a ≤ℤ b
≤ℤ_of_≡ h = omega (arith, ints)

-- ---- signs of products
pub *ℤ_nonneg : {a b : ℤ} → pos 0 ≤ℤ a → pos 0 ≤ℤ b → pos 0 ≤ℤ (a *ℤ b)
*ℤ_nonneg {a = pos a} {b = pos b} h k = record { le = le→leb 0 (a * b) zero-le }
*ℤ_nonneg {a = pos a} {b = negsuc b} h k = absurd k.le
*ℤ_nonneg {a = negsuc a} {b = b} h k = absurd h.le

pub *ℤ_pos : {a b : ℤ} → pos 0 <ℤ a → pos 0 <ℤ b → pos 0 <ℤ (a *ℤ b)
*ℤ_pos {a = pos zero} {b = b} h k = absurd h.lt
*ℤ_pos {a = pos (suc a)} {b = pos zero} h k = absurd k.lt
*ℤ_pos {a = pos (suc a)} {b = pos (suc b)} h k = record { lt = lt→ltb 0 (suc a * suc b) (omega arith) }
*ℤ_pos {a = pos (suc a)} {b = negsuc b} h k = absurd k.lt
*ℤ_pos {a = negsuc a} {b = b} h k = absurd h.lt

pub sq_nonneg : (a : ℤ) → pos 0 ≤ℤ (a *ℤ a)
sq_nonneg (pos a) = record { le = le→leb 0 (a * a) zero-le }
sq_nonneg (negsuc a) = record { le = le→leb 0 (suc a * suc a) zero-le }

pub sq_zero : (a : ℤ) → (a *ℤ a) ≤ℤ pos 0 → a ≡ pos 0
sq_zero (pos zero) h = refl
sq_zero (pos (suc a)) h = absurd (omega (arith, leb→le (suc a * suc a) 0 h.le))
sq_zero (negsuc a) h = absurd (omega (arith, leb→le (suc a * suc a) 0 h.le))

-- ---- to compare is to look at the difference
pub ≤ℤ_by : {a b d : ℤ} → b ≡ a +ℤ d → pos 0 ≤ℤ d → a ≤ℤ b
≤ℤ_by e h = omega (arith, ints)

pub <ℤ_by : {a b d : ℤ} → b ≡ a +ℤ d → pos 0 <ℤ d → a <ℤ b
<ℤ_by e h = omega (arith, ints)

pub gap : {a b : ℤ} → a ≤ℤ b → pos 0 ≤ℤ (b -ℤ a)
gap h = omega (arith, ints)

pub gap< : {a b : ℤ} → a <ℤ b → pos 0 <ℤ (b -ℤ a)
gap< h = omega (arith, ints)

pub +ℤ_nonneg : {a b : ℤ} → pos 0 ≤ℤ a → pos 0 ≤ℤ b → pos 0 ≤ℤ (a +ℤ b)
+ℤ_nonneg h k = omega (arith, ints)

pub +ℤ_pos : {a b : ℤ} → pos 0 ≤ℤ a → pos 0 <ℤ b → pos 0 <ℤ (a +ℤ b)
+ℤ_pos h k = omega (arith, ints)

-- r = l + d with d ≥ 0, or d > 0. The difference d is written as a sum of products that are seen to be so
pub solve≤ : (ρ : List ℤ) (l r d : Exp) → residue r (l ⊕ d) ≡ nil → pos 0 ≤ℤ (eval ρ d) → (eval ρ l) ≤ℤ (eval ρ r)
solve≤ ρ l r d e h = ≤ℤ_by (solve ρ r (l ⊕ d) e) h

pub solve< : (ρ : List ℤ) (l r d : Exp) → residue r (l ⊕ d) ≡ nil → pos 0 <ℤ (eval ρ d) → (eval ρ l) <ℤ (eval ρ r)
solve< ρ l r d e h = <ℤ_by (solve ρ r (l ⊕ d) e) h

-- ---- factors
pub *ℤ_mono : {k a b : ℤ} → pos 0 ≤ℤ k → a ≤ℤ b → (k *ℤ a) ≤ℤ (k *ℤ b)
*ℤ_mono {k} {a} {b} p h = solve≤ (k ∷ a ∷ b ∷ []) (var 0 ⊗ var 1) (var 0 ⊗ var 2) (var 0 ⊗ (var 2 ⊖ var 1)) refl (*ℤ_nonneg p (gap h))

pub *ℤ_mono< : {k a b : ℤ} → pos 0 <ℤ k → a <ℤ b → (k *ℤ a) <ℤ (k *ℤ b)
*ℤ_mono< {k} {a} {b} p h = solve< (k ∷ a ∷ b ∷ []) (var 0 ⊗ var 1) (var 0 ⊗ var 2) (var 0 ⊗ (var 2 ⊖ var 1)) refl (*ℤ_pos p (gap< h))

pub *ℤ_cancel≤ : (k : ℤ) {a b : ℤ} → pos 0 <ℤ k → (k *ℤ a) ≤ℤ (k *ℤ b) → a ≤ℤ b
*ℤ_cancel≤ k {a} {b} p h = by_lt_z b a (λ l. clash_ℤ (*ℤ_mono< p l) h) (λ l. l)

pub *ℤ_cancel< : (k : ℤ) {a b : ℤ} → pos 0 ≤ℤ k → (k *ℤ a) <ℤ (k *ℤ b) → a <ℤ b
*ℤ_cancel< k {a} {b} p h = by_lt_z a b (λ l. l) (λ l. clash_ℤ h (*ℤ_mono p l))

pub *ℤ_cancel : (k : ℤ) {a b : ℤ} → pos 0 <ℤ k → k *ℤ a ≡ k *ℤ b → a ≡ b
*ℤ_cancel k p e = ≤ℤ_antisym (*ℤ_cancel≤ k p (≤ℤ_of_≡ e)) (*ℤ_cancel≤ k p (≤ℤ_of_≡ (sym e)))

pub *ℤ_mono₂ : {a b c d : ℤ} → pos 0 ≤ℤ a → a ≤ℤ b → pos 0 ≤ℤ c → c ≤ℤ d → (a *ℤ c) ≤ℤ (b *ℤ d)
*ℤ_mono₂ {a} {b} {c} {d} p h q k =
    let A = var 0 in let B = var 1 in let C = var 2 in let D = var 3 in
    solve≤ (a ∷ b ∷ c ∷ d ∷ []) (A ⊗ C) (B ⊗ D) ((B ⊖ A) ⊗ C ⊕ B ⊗ (D ⊖ C)) refl (+ℤ_nonneg (*ℤ_nonneg (gap h) q) (*ℤ_nonneg (≤ℤ_trans p h) (gap k)))

-- ---- −A ≤ x ≤ A
halve : {a : ℤ} → pos 0 ≤ℤ (pos 2 *ℤ a) → pos 0 ≤ℤ a
halve h = omega (arith, ints)

pub bound-* : {A B x y : ℤ} → Bound A x → Bound B y → Bound (A *ℤ B) (x *ℤ y)
bound-* {A} {B} {x} {y} h k =
    let ρ = A ∷ B ∷ x ∷ y ∷ [] in let A' = var 0 in let B' = var 1 in let X = var 2 in let Y = var 3 in
    let p : pos 0 ≤ℤ (A -ℤ x) = gap h.high in
    let q : pos 0 ≤ℤ (A +ℤ x) = omega (arith, ints) in
    let r : pos 0 ≤ℤ (B -ℤ y) = gap k.high in
    let s : pos 0 ≤ℤ (B +ℤ y) = omega (arith, ints) in
    let low₂ : (A -ℤ x) *ℤ (B -ℤ y) +ℤ (A +ℤ x) *ℤ (B +ℤ y) ≡ pos 2 *ℤ (A *ℤ B +ℤ x *ℤ y) = solve ρ ((A' ⊖ X) ⊗ (B' ⊖ Y) ⊕ (A' ⊕ X) ⊗ (B' ⊕ Y)) (con (pos 2) ⊗ (A' ⊗ B' ⊕ X ⊗ Y)) refl in
    let high₂ : (A -ℤ x) *ℤ (B +ℤ y) +ℤ (A +ℤ x) *ℤ (B -ℤ y) ≡ pos 2 *ℤ (A *ℤ B -ℤ x *ℤ y) = solve ρ ((A' ⊖ X) ⊗ (B' ⊕ Y) ⊕ (A' ⊕ X) ⊗ (B' ⊖ Y)) (con (pos 2) ⊗ (A' ⊗ B' ⊖ X ⊗ Y)) refl in
    let l : pos 0 ≤ℤ (A *ℤ B +ℤ x *ℤ y) = halve (rw low₂ at (+ℤ_nonneg (*ℤ_nonneg p r) (*ℤ_nonneg q s))) in
    let u : pos 0 ≤ℤ (A *ℤ B -ℤ x *ℤ y) = halve (rw high₂ at (+ℤ_nonneg (*ℤ_nonneg p s) (*ℤ_nonneg q r))) in
    record { low = under (A *ℤ B) (x *ℤ y) l; high = over (A *ℤ B) (x *ℤ y) u }
  where
    under : (m t : ℤ) → pos 0 ≤ℤ (m +ℤ t) → neg_ℤ m ≤ℤ t
    under m t h = omega (arith, ints)

    over : (m t : ℤ) → pos 0 ≤ℤ (m -ℤ t) → t ≤ℤ m
    over m t h = omega (arith, ints)

pub bound-+ : {A B x y : ℤ} → Bound A x → Bound B y → Bound (A +ℤ B) (x +ℤ y)
bound-+ h k = record { low = omega (arith, ints); high = omega (arith, ints) }

pub bound_neg : {A x : ℤ} → Bound A x → Bound A (neg_ℤ x)
bound_neg h = record { low = omega (arith, ints); high = omega (arith, ints) }

pub bound-- : {A B x y : ℤ} → Bound A x → Bound B y → Bound (A +ℤ B) (x -ℤ y)
bound-- h k = bound-+ h (bound_neg k)
