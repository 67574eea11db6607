-- Fractions compared by cross products: the order is total and transitive.
use Rattle.std.specs.Prelude.{◌≡◌, ℕ, ◌*◌, ◌<◌, ◌≤◌, true, false, not, nat_lt}
use Rattle.std.proofs.Common.{refl, sym, ap, ◌∙◌, ap₂, mul_right_comm, mul-le-mul_right, le_of_mul-le-mul_right, arith}
use Rattle.std.proofs.lemmas.Bool.Decides.{nat_tests}
use Rattle.std.proofs.Math.Nat.{mul-lt-mul_of_pos_right}
use Rattle.std.specs.declared.cmp.Ordering.{Ordering}
use Rattle.std.specs.declared.cmp.Ordering.TheVariants.{Less, Equal, Greater}
use Rattle.std.specs.Ordering.{nat_cmp, MatchOrdering, ordering_reverse, is_eq, eq_by_cmp, flip_args}
use Rattle.std.specs.Cmp.{IsTotalOrder, nat_cmp_total, ranked, nat_cmp_is}
use Rattle.exact.specs.declared.gap.Gap.{Gap}
use Rattle.exact.specs.Terms.{crossed}

scaled_at : (a b k : ℕ) → 0 < k → (r : Ordering) → MatchOrdering r (a < b) (a ≡ b) (b < a) → MatchOrdering r (a * k < b * k) (a * k ≡ b * k) (b * k < a * k)
scaled_at a b k h Less l = mul-lt-mul_of_pos_right l h
scaled_at a b k h Equal e = ap (λ n. n * k) e
scaled_at a b k h Greater l = mul-lt-mul_of_pos_right l h

-- products with one positive factor compare as the other factors do
scaled : (a b k : ℕ) → 0 < k → nat_cmp (a * k) (b * k) ≡ nat_cmp a b
scaled a b k h = sym (nat_cmp_is (a * k) (b * k) (nat_cmp a b) (scaled_at a b k h (nat_cmp a b) (ranked a b (nat_cmp a b) refl)))

tied_at : (a b : ℕ) (r : Ordering) → r ≡ Equal → MatchOrdering r (a < b) (a ≡ b) (b < a) → a ≡ b
tied_at a b Less e h = absurd (cc)
tied_at a b Equal e h = h
tied_at a b Greater e h = absurd (cc)

tied : (a b : ℕ) → nat_cmp a b ≡ Equal → a ≡ b
tied a b e = tied_at a b (nat_cmp a b) e (ranked a b (nat_cmp a b) refl)

-- p/q < r/s < t/u
chained : (p q r s t u : ℕ) → 0 < q → 0 < s → 0 < u → nat_cmp (p * s) (r * q) ≡ Less → nat_cmp (r * u) (t * s) ≡ Less → nat_cmp (p * u) (t * q) ≡ Less
chained p q r s t u hq hs hu a b =
    sym (scaled (p * u) (t * q) s hs)
    ∙ ap₂ nat_cmp (mul_right_comm p u s) (mul_right_comm t q s)
    ∙ nat_cmp_total.trans (p * s * u) (r * q * u) (t * s * q) (scaled (p * s) (r * q) u hu ∙ a) (ap (λ n. nat_cmp n (t * s * q)) (mul_right_comm r q u) ∙ scaled (r * u) (t * s) q hq ∙ b)

-- p/q = r/s, beside t/u
level : (p q r s t u : ℕ) → 0 < q → 0 < s → nat_cmp (p * s) (r * q) ≡ Equal → nat_cmp (p * u) (t * q) ≡ nat_cmp (r * u) (t * s)
level p q r s t u hq hs e =
    sym (scaled (p * u) (t * q) s hs)
    ∙ ap₂ nat_cmp (mul_right_comm p u s ∙ ap (λ n. n * u) (tied (p * s) (r * q) e) ∙ mul_right_comm r q u) (mul_right_comm t q s)
    ∙ scaled (r * u) (t * s) q hq

pub crossed_total : IsTotalOrder crossed
crossed_total = record {
  antisymm = λ g h. nat_cmp_total.antisymm (g.p * h.q) (h.p * g.q);
  trans = λ g h k. chained g.p g.q h.p h.q k.p k.q g.over h.over k.over;
  congr = λ g h k. level g.p g.q h.p h.q k.p k.q g.over h.over;
}

eq_of_reverse : (r : Ordering) → is_eq (ordering_reverse r) ≡ is_eq r
eq_of_reverse Less = refl
eq_of_reverse Equal = refl
eq_of_reverse Greater = refl

-- ties are the same whichever gap comes first
pub crossed_ties : (g h : Gap) → eq_by_cmp crossed g h ≡ eq_by_cmp (flip_args crossed) g h
crossed_ties g h = ap is_eq (crossed_total.antisymm g h) ∙ eq_of_reverse (crossed h g)

-- ---- the same of loose numbers
-- p/q ≥ r/s ≥ t/u
no_less : (p q r s t u : ℕ) → 0 < s → r * q ≤ p * s → t * s ≤ r * u → t * q ≤ p * u
no_less p q r s t u h a b =
    let a' : r * q * u ≤ p * s * u = mul-le-mul_right u a in
    let b' : t * s * q ≤ r * u * q = mul-le-mul_right q b in
    le_of_mul-le-mul_right {k = s} (omega (arith, mul_right_comm r q u, mul_right_comm p s u, mul_right_comm t s q)) h

not_less : (a b : ℕ) → not (nat_lt a b) ≡ true → b ≤ a
not_less a b h = grind (arith, nat_tests)

less_not : (a b : ℕ) → b ≤ a → not (nat_lt a b) ≡ true
less_not a b h = grind (arith, nat_tests)

pub no_narrower_trans : (p q r s t u : ℕ) → 0 < s → not (nat_lt (p * s) (r * q)) ≡ true → not (nat_lt (r * u) (t * s)) ≡ true → not (nat_lt (p * u) (t * q)) ≡ true
no_narrower_trans p q r s t u h a b = less_not (p * u) (t * q) (no_less p q r s t u h (not_less (p * s) (r * q) a) (not_less (r * u) (t * s) b))

-- of two gaps one is no narrower than the other
pub no_narrower_total : (p q r s : ℕ) → not (nat_lt (p * s) (r * q)) ≡ false → not (nat_lt (r * q) (p * s)) ≡ true
no_narrower_total p q r s h = grind (arith, nat_tests)
