-- Divisors of sums and remainders, for Euclid's algorithm, and what a division by the greatest common divisor leaves.
use Rattle.std.proofs.Common.{◌≡◌, ℕ, zero, suc, ◌+◌, ◌-◌, ◌*◌, ◌/◌, ◌%◌, ◌<◌, ◌≤◌, List, [], ◌∷◌, map, ℤ, pos, negsuc, ◌+ℤ◌, ◌*ℤ◌, neg_ℤ, nat_abs, sym, refl, ap, ◌∙◌, subst, ap₂, mul_assoc, mul_comm, add-mul, one-mul, div-add-mod', zero-mul, arith}
use native.Mathlib.Nat.{mul-sub, mul-div_left, eq_of_mul-eq-mul_right}
use lib.IntN.{*ℤ-zero, *ℤ_comm}
use lib.Signed.{quot_z}
use Rattle.std.specs.List.{AllByRecursion}
use Rattle.std.proofs.ByRecursion.{All-weaker}
use Rattle.std.proofs.lemmas.Int.{ints}
use Rattle.integers.specs.Divisors.{Divides, Greatest, Coprime, Reduced}
use Rattle.integers.proofs.Laws.{*ℤ_negℤ, *ℤ_assoc, *ℤ-+ℤ}

-- ---- Euclid's algorithm
-- each divisor of both numbers of one pair divides both of the other
abbrev pub Alike : ℕ → ℕ → ℕ → ℕ → Type 0
Alike x y a b = (d : ℕ) → Divides d x → Divides d y → Divides d a × Divides d b

multiple : (d y q : ℕ) → Divides d y → Divides d (q * y)
multiple d y q (k, e) = (q * k, ap (λ n. q * n) e ∙ sym (mul_assoc q k d))

sum : (d x y : ℕ) → Divides d x → Divides d y → Divides d (x + y)
sum d x y (k, e) (l, f) = (k + l, (λ i. e i + f i) ∙ sym (add-mul k l d))

less : (d x y z : ℕ) → x ≡ y + z → Divides d x → Divides d y → Divides d z
less d x y z s (k, e) (l, f) = (k - l, omega (arith, mul-sub d k l, mul_comm d (k - l), mul_comm d k, mul_comm d l))

whole : (x y : ℕ) → x ≡ (x / y) * y + x % y
whole x y = sym (div-add-mod' x y)

-- a step of the algorithm keeps the common divisors, both ways
pub alike_back : (x y : ℕ) → Alike y (x % y) x y
alike_back x y d p q = (rw (whole x y) (sum d ((x / y) * y) (x % y) (multiple d y (x / y) p) q), p)

pub alike_on : (x y : ℕ) → Alike x y y (x % y)
alike_on x y d p q = (q, less d x ((x / y) * y) (x % y) (whole x y) p (multiple d y (x / y) q))

pub alike_trans : (x y a b p q : ℕ) → Alike x y a b → Alike a b p q → Alike x y p q
alike_trans x y a b p q f g d h k = let m = f d h k in g d m.0 m.1

-- at the end, where the second number is 0, the first is the greatest common divisor
pub greatest_at_end : (x a b : ℕ) → Alike x 0 a b → Alike a b x 0 → Greatest (a ∷ b ∷ []) x
greatest_at_end x a b f g =
    let m = f x (1, sym (one-mul x)) (0, sym (zero-mul x)) in
    record { divides = (m.0, (m.1, tt)); most = λ e h. (g e h.0 h.1.0).0 }

-- ---- of more numbers than two
pub divides_trans : (a b c : ℕ) → Divides a b → Divides b c → Divides a c
divides_trans a b c (k, e) (l, f) = (l * k, f ∙ ap (λ t. l * t) e ∙ sym (mul_assoc l k a))

pub greatest_more : (ns : List ℕ) (n d g : ℕ) → Greatest ns d → Greatest (n ∷ d ∷ []) g → Greatest (n ∷ ns) g
greatest_more ns n d g h k = record {
  divides = (k.divides.0, All-weaker _ _ (λ m p. divides_trans g d m k.divides.1.0 p) ns h.divides);
  most = λ e p. k.most e (p.0, (h.most e p.1, tt));
}

-- ---- divisors of a positive number
pub divides_pos : (g n : ℕ) → 0 < n → Divides g n → 0 < g
divides_pos zero n h (k, e) = absurd (omega (arith, mul_comm k 0, zero-mul k))
divides_pos (suc g) n h d = omega arith

pub divides_le : (g n : ℕ) → 0 < n → Divides g n → g ≤ n
divides_le g n h (zero, e) = absurd (omega (arith, zero-mul g))
divides_le g n h (suc k, e) = omega (arith, suc_times k g)
  where
    suc_times : (k g : ℕ) → suc k * g ≡ g + k * g
    suc_times k g = omega arith

-- ---- exact quotients
pub quotient_exact : (a b : ℕ) → 0 < b → Divides b a → b * (a / b) ≡ a
quotient_exact a b h (k, e) = ap (λ t. b * (t / b)) e ∙ ap (λ t. b * t) (mul-div_left k h) ∙ mul_comm b k ∙ sym e

-- what is left of a positive number is positive
pub quotient_some : (a b : ℕ) → 0 < a → Divides b a → 0 < a / b
quotient_some a b h d = some (a / b) (quotient_exact a b (divides_pos b a h d) d)
  where
    some : (q : ℕ) → b * q ≡ a → 0 < q
    some zero e = absurd (omega (arith, mul_comm b 0, zero-mul b))
    some (suc q) e = omega arith

pub quot_z_exact : (x : ℤ) (b : ℕ) → 0 < b → Divides b (nat_abs x) → pos b *ℤ quot_z x (pos b) ≡ x
quot_z_exact (pos a) b h d = ap pos (quotient_exact a b h d)
quot_z_exact (negsuc a) b h d = *ℤ_negℤ (pos b) (pos (suc a / b)) ∙ ap (λ t. neg_ℤ (pos t)) (quotient_exact (suc a) b h d)

-- ---- what is left
abs_neg : (n : ℕ) → nat_abs (neg_ℤ (pos n)) ≡ n
abs_neg n = omega (arith, ints)

pub abs_product : (a b : ℤ) → nat_abs (a *ℤ b) ≡ nat_abs a * nat_abs b
abs_product (pos a) (pos b) = refl
abs_product (pos a) (negsuc b) = abs_neg (a * suc b)
abs_product (negsuc a) (pos b) = abs_neg (suc a * b)
abs_product (negsuc a) (negsuc b) = refl

one_of : (j k : ℕ) → j * k ≡ 1 → k ≡ 1
one_of j zero e = absurd (omega (arith, mul_comm j 0, zero-mul j))
one_of zero (suc k) e = absurd (omega (arith, zero-mul (suc k)))
one_of (suc j) (suc zero) e = refl
one_of (suc j) (suc (suc k)) e = absurd (omega arith)

no_more : (k g : ℕ) → 0 < g → Divides (k * g) g → k ≡ 1
no_more k g h (j, e) = one_of j k (eq_of_mul-eq-mul_right g h (j * k) 1 (mul_assoc j k g ∙ sym e ∙ sym (one-mul g)))

lift : (k g : ℕ) (ms : List ℤ) → AllByRecursion (Divides k) (map nat_abs ms) → AllByRecursion (Divides (k * g)) (map nat_abs (map (λ m. pos g *ℤ m) ms))
lift k g [] h = tt
lift k g (m ∷ ms) ((j, e), h) = ((j, abs_product (pos g) m ∙ ap (λ t. g * t) e ∙ mul_comm g (j * k) ∙ mul_assoc j k g), lift k g ms h)

-- numbers divided by their greatest common divisor are in lowest terms
pub reduced_by : (ns ms : List ℤ) (g : ℕ) → 0 < g → Greatest (map nat_abs ns) g → ns ≡ map (λ m. pos g *ℤ m) ms → Reduced ns ms
reduced_by ns ms g h v e = record {
  factor = g;
  positive = h;
  scaled = e;
  coprime = λ k a. no_more k g h (v.most (k * g) (subst (λ l. AllByRecursion (Divides (k * g)) (map nat_abs l)) (sym e) (lift k g ms a)));
}

-- ---- numbers that come to 1 by some factors have no common divisor
abbrev pub weighted : List ℤ → List ℤ → ℤ
weighted [] ns = pos 0
weighted (c ∷ cs) [] = pos 0
weighted (c ∷ cs) (n ∷ ns) = c *ℤ n +ℤ weighted cs ns

-- the quotient of a signed number by a divisor
signed_multiple : (k : ℕ) (n : ℤ) → Divides k (nat_abs n) → (j : ℤ) × (n ≡ pos k *ℤ j)
signed_multiple k (pos a) (j, e) = (pos j, ap pos (e ∙ mul_comm j k))
signed_multiple k (negsuc a) (j, e) = (neg_ℤ (pos j), ap (λ t. neg_ℤ (pos t)) (e ∙ mul_comm j k) ∙ sym (*ℤ_negℤ (pos k) (pos j)))

weighted_multiple : (k : ℕ) (cs ns : List ℤ) → AllByRecursion (Divides k) (map nat_abs ns) → (j : ℤ) × (weighted cs ns ≡ pos k *ℤ j)
weighted_multiple k [] ns h = (pos 0, sym (*ℤ-zero (pos k)))
weighted_multiple k (c ∷ cs) [] h = (pos 0, sym (*ℤ-zero (pos k)))
weighted_multiple k (c ∷ cs) (n ∷ ns) (d, h) =
    let (i, e) = signed_multiple k n d in let (j, f) = weighted_multiple k cs ns h in
    (c *ℤ i +ℤ j, ap₂ ◌+ℤ◌ (ap (λ t. c *ℤ t) e ∙ exchange c (pos k) i) f ∙ sym (*ℤ-+ℤ (pos k) (c *ℤ i) j))
  where
    exchange : (a b c : ℤ) → a *ℤ (b *ℤ c) ≡ b *ℤ (a *ℤ c)
    exchange a b c = sym (*ℤ_assoc a b c) ∙ ap (λ t. t *ℤ c) (*ℤ_comm a b) ∙ *ℤ_assoc b a c

pub coprime_by : (cs ns : List ℤ) → weighted cs ns ≡ pos 1 → Coprime (map nat_abs ns)
coprime_by cs ns e k h =
    let m = weighted_multiple k cs ns h in
    one_of (nat_abs m.0) k (mul_comm (nat_abs m.0) k ∙ sym (abs_product (pos k) m.0) ∙ ap nat_abs (sym m.1 ∙ e))
