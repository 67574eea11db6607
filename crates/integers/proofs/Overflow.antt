-- What a program computes, against what the expression means. A signed value that the code computes is kept as its bits: `to_z w (of_z w z)`.
-- Over variables with known bounds, one test by computation (`ok`) says that no part of an expression overflows; `fits` answers what each operation asks, and `kept-is` what the whole comes to.
use Rattle.std.proofs.Common.{◌≡◌, ℕ, zero, suc, ◌+◌, ◌*◌, ◌^◌, ◌<◌, Bool, true, false, T, ltb, List, [], ◌∷◌, ℤ, pos, negsuc, ◌+ℤ◌, ◌-ℤ◌, ◌*ℤ◌, neg_ℤ, nat_abs, sym, refl, ap, ◌∙◌, subst, ap₂, arith, ltb→lt, w64, SFits, to_z, of_z}
use lib.Signed.{mag}
use mir.Syntax.{Width}
use mir.Val.{hbits}
use Rattle.std.proofs.lemmas.Int.{ints, to_z-of_z}
use Rattle.integers.specs.Points.{Pt}
use Rattle.integers.specs.Bounds.{Bound}
use Rattle.integers.proofs.Solver.{Exp, var, con, ◌⊕◌, ◌⊗◌, ◌⊖◌, neg, nth, eval}
use Rattle.integers.proofs.Vectors.{V, eval_v}
use Rattle.integers.proofs.Order.{bound-+, bound--, bound-*, bound_neg}

-- a number, what the code has for it, and its bound
pub record Bv : Type 0 where
  pub code : ℤ
  pub val : ℤ
  pub same : code ≡ val
  pub lim : ℕ
  pub within : Bound (pos lim) val

-- a parameter, a field, a result
abbrev pub bv : {A : ℕ} {x : ℤ} → Bound (pos A) x → Bv
bv {A} {x} h = record { code = x; val = x; same = refl; lim = A; within = h }

-- `x as i64`, where x is of the narrower width v: within a bound that is known, or within that of its type
abbrev pub cast : (v : Width) {A : ℕ} {x : ℤ} → SFits v x → Bound (pos A) x → Bv
cast v {A} {x} f h = record { code = to_z v (of_z v x); val = x; same = to_z-of_z v x f; lim = A; within = h }

pub bound_width : (v : Width) {x : ℤ} → SFits v x → Bound (pos (2 ^ hbits v)) x
bound_width v {x} f = record { low = omega (arith, ints); high = omega (arith, ints) }

abbrev pub cast_any : (v : Width) {x : ℤ} → SFits v x → Bv
cast_any v f = cast v f (bound_width v f)

abbrev pub vals : List Bv → List ℤ
vals [] = []
vals (b ∷ ρ) = b.val ∷ vals ρ

abbrev pub codes : List Bv → List ℤ
codes [] = []
codes (b ∷ ρ) = b.code ∷ codes ρ

var_is : (ρ : List Bv) (i : ℕ) → nth (codes ρ) i ≡ nth (vals ρ) i
var_is [] i = refl
var_is (b ∷ ρ) zero = b.same
var_is (b ∷ ρ) (suc i) = var_is ρ i

abbrev pub lim_at : List Bv → ℕ → ℕ
lim_at [] i = 1
lim_at (b ∷ ρ) zero = b.lim
lim_at (b ∷ ρ) (suc i) = lim_at ρ i

abbrev pub raw : Width → List ℤ → Exp → ℤ
raw w ρ (var i) = nth ρ i
raw w ρ (con c) = c
raw w ρ (a ⊕ b) = to_z w (of_z w (raw w ρ a)) +ℤ to_z w (of_z w (raw w ρ b))
raw w ρ (a ⊖ b) = to_z w (of_z w (raw w ρ a)) -ℤ to_z w (of_z w (raw w ρ b))
raw w ρ (a ⊗ b) = to_z w (of_z w (raw w ρ a)) *ℤ to_z w (of_z w (raw w ρ b))
raw w ρ (neg a) = neg_ℤ (to_z w (of_z w (raw w ρ a)))

abbrev pub kept : Width → List ℤ → Exp → ℤ
kept w ρ e = to_z w (of_z w (raw w ρ e))

abbrev pub bnd : List Bv → Exp → ℕ
bnd ρ (var i) = lim_at ρ i
bnd ρ (con c) = nat_abs c
bnd ρ (a ⊕ b) = bnd ρ a + bnd ρ b
bnd ρ (a ⊖ b) = bnd ρ a + bnd ρ b
bnd ρ (a ⊗ b) = bnd ρ a * bnd ρ b
bnd ρ (neg a) = bnd ρ a

abbrev pub both : Bool → Bool → Bool
both true c = c
both false c = false

abbrev pub ok : ℕ → List Bv → Exp → Bool
ok h ρ (var i) = ltb (lim_at ρ i) h
ok h ρ (con c) = ltb (nat_abs c) h
ok h ρ (a ⊕ b) = both (ltb (bnd ρ (a ⊕ b)) h) (both (ok h ρ a) (ok h ρ b))
ok h ρ (a ⊖ b) = both (ltb (bnd ρ (a ⊖ b)) h) (both (ok h ρ a) (ok h ρ b))
ok h ρ (a ⊗ b) = both (ltb (bnd ρ (a ⊗ b)) h) (both (ok h ρ a) (ok h ρ b))
ok h ρ (neg a) = both (ltb (bnd ρ a) h) (ok h ρ a)

-- ---- the bound
bound_con : (c : ℤ) → Bound (pos (nat_abs c)) c
bound_con (pos n) = record { low = omega (arith, ints); high = omega (arith, ints) }
bound_con (negsuc n) = record { low = omega (arith, ints); high = omega (arith, ints) }

bound_var : (ρ : List Bv) (i : ℕ) → Bound (pos (lim_at ρ i)) (nth (vals ρ) i)
bound_var [] i = bound_con (pos 1)
bound_var (b ∷ ρ) zero = b.within
bound_var (b ∷ ρ) (suc i) = bound_var ρ i

pub bounded : (ρ : List Bv) (e : Exp) → Bound (pos (bnd ρ e)) (eval (vals ρ) e)
bounded ρ (var i) = bound_var ρ i
bounded ρ (con c) = bound_con c
bounded ρ (a ⊕ b) = bound-+ (bounded ρ a) (bounded ρ b)
bounded ρ (a ⊖ b) = bound-- (bounded ρ a) (bounded ρ b)
bounded ρ (a ⊗ b) = bound-* (bounded ρ a) (bounded ρ b)
bounded ρ (neg a) = bound_neg (bounded ρ a)

pub both_left : (b c : Bool) → T (both b c) → T b
both_left true c t = tt
both_left false c t = t

pub both_right : (b c : Bool) → T (both b c) → T c
both_right true c t = t
both_right false c t = absurd t

bound-fits : (w : Width) (n : ℕ) (z : ℤ) → T (ltb n (2 ^ hbits w)) → Bound (pos n) z → SFits w z
bound-fits w n z t h = let k : n < 2 ^ hbits w = ltb→lt n (2 ^ hbits w) t in omega (arith, ints, h.low, h.high)

first : (h : ℕ) (ρ : List Bv) (a b : Exp) → T (both (ok h ρ a) (ok h ρ b)) → T (ok h ρ a)
first h ρ a b t = both_left (ok h ρ a) (ok h ρ b) t

second : (h : ℕ) (ρ : List Bv) (a b : Exp) → T (both (ok h ρ a) (ok h ρ b)) → T (ok h ρ b)
second h ρ a b t = both_right (ok h ρ a) (ok h ρ b) t

-- ---- nothing overflows
ok_here : (h : ℕ) (ρ : List Bv) (e : Exp) → T (ok h ρ e) → T (ltb (bnd ρ e) h)
ok_here h ρ (var i) t = t
ok_here h ρ (con c) t = t
ok_here h ρ (a ⊕ b) t = both_left _ _ t
ok_here h ρ (a ⊖ b) t = both_left _ _ t
ok_here h ρ (a ⊗ b) t = both_left _ _ t
ok_here h ρ (neg a) t = both_left _ _ t

pub eval_fits : (w : Width) (ρ : List Bv) (e : Exp) → T (ok (2 ^ hbits w) ρ e) → SFits w (eval (vals ρ) e)
eval_fits w ρ e t = bound-fits w (bnd ρ e) (eval (vals ρ) e) (ok_here (2 ^ hbits w) ρ e t) (bounded ρ e)

kept_by : (w : Width) (ρ : List Bv) (e : Exp) → T (ok (2 ^ hbits w) ρ e) → raw w (codes ρ) e ≡ eval (vals ρ) e → kept w (codes ρ) e ≡ eval (vals ρ) e
kept_by w ρ e t p = ap (λ z. to_z w (of_z w z)) p ∙ to_z-of_z w (eval (vals ρ) e) (eval_fits w ρ e t)

pub raw_is : (w : Width) (ρ : List Bv) (e : Exp) → T (ok (2 ^ hbits w) ρ e) → raw w (codes ρ) e ≡ eval (vals ρ) e
raw_is w ρ (var i) t = var_is ρ i
raw_is w ρ (con c) t = refl
raw_is w ρ (a ⊕ b) t = ap₂ ◌+ℤ◌ (kept_by w ρ a (first (2 ^ hbits w) ρ a b (both_right _ _ t)) (raw_is w ρ a (first (2 ^ hbits w) ρ a b (both_right _ _ t)))) (kept_by w ρ b (second (2 ^ hbits w) ρ a b (both_right _ _ t)) (raw_is w ρ b (second (2 ^ hbits w) ρ a b (both_right _ _ t))))
raw_is w ρ (a ⊖ b) t = ap₂ ◌-ℤ◌ (kept_by w ρ a (first (2 ^ hbits w) ρ a b (both_right _ _ t)) (raw_is w ρ a (first (2 ^ hbits w) ρ a b (both_right _ _ t)))) (kept_by w ρ b (second (2 ^ hbits w) ρ a b (both_right _ _ t)) (raw_is w ρ b (second (2 ^ hbits w) ρ a b (both_right _ _ t))))
raw_is w ρ (a ⊗ b) t = ap₂ ◌*ℤ◌ (kept_by w ρ a (first (2 ^ hbits w) ρ a b (both_right _ _ t)) (raw_is w ρ a (first (2 ^ hbits w) ρ a b (both_right _ _ t)))) (kept_by w ρ b (second (2 ^ hbits w) ρ a b (both_right _ _ t)) (raw_is w ρ b (second (2 ^ hbits w) ρ a b (both_right _ _ t))))
raw_is w ρ (neg a) t = ap neg_ℤ (kept_by w ρ a (both_right _ _ t) (raw_is w ρ a (both_right _ _ t)))

pub fits : (w : Width) (ρ : List Bv) (e : Exp) → T (ok (2 ^ hbits w) ρ e) → SFits w (raw w (codes ρ) e)
fits w ρ e t = subst (λ z. SFits w z) (sym (raw_is w ρ e t)) (eval_fits w ρ e t)

pub kept_is : (w : Width) (ρ : List Bv) (e : Exp) → T (ok (2 ^ hbits w) ρ e) → kept w (codes ρ) e ≡ eval (vals ρ) e
kept_is w ρ e t = kept_by w ρ e t (raw_is w ρ e t)

-- the same, of a point
pub kept_is_v : (w : Width) (ρ : List Bv) (e : V) → T (ok (2 ^ hbits w) ρ e.x) → T (ok (2 ^ hbits w) ρ e.y) → T (ok (2 ^ hbits w) ρ e.z)
    → ◌≡◌ {A = Pt} (record { x = kept w (codes ρ) e.x; y = kept w (codes ρ) e.y; z = kept w (codes ρ) e.z }) (eval_v (vals ρ) e)
kept_is_v w ρ e s t u i = record { x = kept_is w ρ e.x s i; y = kept_is w ρ e.y t i; z = kept_is w ρ e.z u i }

-- ---- results that are passed on
pub result_fits : (x : ℤ) → mag x < 2 ^ 63 → SFits w64 x
result_fits x h = record { sfits = h }

pub passed : (x : ℤ) → mag x < 2 ^ 63 → to_z w64 (of_z w64 x) ≡ x
passed x h = to_z-of_z w64 x (result_fits x h)
