-- In lowest terms a fraction, and a ratio of two numbers, can be written in one way only.
use Rattle.std.proofs.Common.{◌≡◌, ℕ, zero, suc, ◌+◌, ◌-◌, ◌<◌, ◌≤◌, ◌⊎◌, List, [], ◌∷◌, map, get_or, ℤ, pos, negsuc, ◌+ℤ◌, ◌-ℤ◌, ◌*ℤ◌, nat_abs, ◌<ℤ◌, sym, refl, ap, ◌∙◌, subst, ap₂, inl, inr, mul_comm, eq-or-lt_of_le, arith}
use Rattle.std.specs.List.{AllByRecursion}
use Rattle.std.proofs.lemmas.Int.{ints}
use Rattle.std.proofs.lemmas.Bool.{cases_lt}
use Rattle.integers.specs.Points.{Pt, ◌·ᵛ◌, dot}
use Rattle.integers.specs.Divisors.{Divides, Coprime, Reduced}
use Rattle.integers.proofs.Solver.{var, con, neg, ◌⊕◌, ◌⊖◌, ◌⊗◌, solve}
use Rattle.integers.proofs.Vectors.{◌⊗ᵛ◌, pt, pts}
use Rattle.integers.proofs.VectorCerts.{by_eq_v, prove_v}
use Rattle.integers.proofs.Order.{<ℤ→≤ℤ, *ℤ_cancel, *ℤ_cancel<}
use Rattle.integers.proofs.Certs.{prove≡, by_eq}
use Rattle.integers.proofs.Divisors.{abs_product}
use Rattle.convex.specs.Fractions.{Frac, Same, SquareOf}
use Rattle.convex.specs.Means.{Nearest}
use Rattle.convex.specs.Lowest.{terms, InLowestTerms}
use Rattle.convex.proofs.Fractions.{same_trans, square-same, square_unique}
use Rattle.convex.proofs.Stopping.{nearest_unique, nearest-same}

-- ---- numbers in proportion
-- n and m are multiples of the same numbers
record Multiples (n m : ℕ → ℤ) : Type 0 where
  base : ℕ → ℤ
  a : ℕ
  b : ℕ
  n_is : (i : ℕ) → n i ≡ pos a *ℤ base i
  m_is : (i : ℕ) → m i ≡ pos b *ℤ base i

-- where v = u + w: u n = w (m − n)
rest : (u v w n m : ℤ) → v ≡ u +ℤ w → v *ℤ n ≡ w *ℤ m → u *ℤ n ≡ w *ℤ (m -ℤ n)
rest u v w n m s e =
    let U = var 0 in let V = var 1 in let W = var 2 in let N = var 3 in let M = var 4 in
    prove≡ (u ∷ v ∷ w ∷ n ∷ m ∷ []) (U ⊗ N) (W ⊗ (M ⊖ N)) (by_eq (neg N) V (U ⊕ W) s ∷ by_eq (con (pos 1)) (V ⊗ N) (W ⊗ M) e ∷ []) refl

-- where n and m − n are multiples, m is
add_back : (n m : ℕ → ℤ) (t : Multiples n (λ i. m i -ℤ n i)) (i : ℕ) → m i ≡ pos (t.a + t.b) *ℤ t.base i
add_back n m t i =
    let A = var 0 in let B = var 1 in let R = var 2 in let N = var 3 in let M = var 4 in
    prove≡ (pos t.a ∷ pos t.b ∷ t.base i ∷ n i ∷ m i ∷ []) M ((A ⊕ B) ⊗ R) (by_eq (con (pos 1)) N (A ⊗ R) (t.n_is i) ∷ by_eq (con (pos 1)) (M ⊖ N) (B ⊗ R) (t.m_is i) ∷ []) refl

-- two small facts
once : (t : ℤ) → t ≡ pos 1 *ℤ t
once t = solve (t ∷ []) (var 0) (con (pos 1) ⊗ var 0) refl

split : (v w : ℕ) → w < v → pos v ≡ pos (v - w) +ℤ pos w
split v w h = omega (arith, ints)

-- numbers in a proportion v : w with v + w ≤ f are multiples of the same
abbrev UpTo : ℕ → Type 0
UpTo f = (v w : ℕ) → v + w ≤ f → 0 < v → 0 < w → (n m : ℕ → ℤ) → ((i : ℕ) → pos v *ℤ n i ≡ pos w *ℤ m i) → Multiples n m

-- by induction on f, since n : m − n is w : v − w
multiples : (f : ℕ) → UpTo f
multiples zero v w l p q n m e = absurd (omega arith)
multiples (suc f) v w l p q n m e = ways (cases_lt v w) (multiples f)
  where
    at_most : (w ≡ v) ⊎ (w < v) → UpTo f → Multiples n m
    at_most (inl s) smaller = record { base = n; a = 1; b = 1; n_is = λ i. once (n i); m_is = λ i. *ℤ_cancel (pos w) (omega (arith, ints)) (sym (e i) ∙ ap₂ (λ k t. pos k *ℤ t) (sym s) (once (n i))) }
    at_most (inr h) smaller = let t = smaller (v - w) w (omega arith) (omega arith) q n (λ i. m i -ℤ n i) (λ i. rest (pos (v - w)) (pos v) (pos w) (n i) (m i) (split v w h) (e i)) in record { base = t.base; a = t.a; b = t.a + t.b; n_is = t.n_is; m_is = add_back n m t }

    ways : (v < w) ⊎ (w ≤ v) → UpTo f → Multiples n m
    ways (inl h) smaller = let t = smaller (w - v) v (omega arith) (omega arith) p m (λ i. n i -ℤ m i) (λ i. rest (pos (w - v)) (pos w) (pos v) (m i) (n i) (split w v h) (sym (e i))) in record { base = t.base; a = t.a + t.b; b = t.a; n_is = add_back m n t; m_is = t.n_is }
    ways (inr h) smaller = at_most (eq-or-lt_of_le h) smaller

-- a common factor of ns divides each of them
all_divided : (a : ℕ) (ns : List ℤ) (r : ℕ → ℤ) → ((i : ℕ) → get_or ns i (pos 0) ≡ pos a *ℤ r i) → AllByRecursion (Divides a) (map nat_abs ns)
all_divided a [] r e = tt
all_divided a (n ∷ ns) r e = ((nat_abs (r 0), ap nat_abs (e 0) ∙ abs_product (pos a) (r 0) ∙ mul_comm a (nat_abs (r 0))), all_divided a ns (λ i. r (suc i)) (λ i. e (suc i)))

-- numbers in proportion, each list in lowest terms, are the same
pub coprime_unique : (ns ms : List ℤ) (v w : ℤ) → pos 0 <ℤ v → pos 0 <ℤ w → ((i : ℕ) → v *ℤ get_or ns i (pos 0) ≡ w *ℤ get_or ms i (pos 0)) → Coprime (map nat_abs ns) → Coprime (map nat_abs ms) → (i : ℕ) → get_or ns i (pos 0) ≡ get_or ms i (pos 0)
coprime_unique ns ms (negsuc v) w p q e h k i = absurd p.lt
coprime_unique ns ms (pos v) (negsuc w) p q e h k i = absurd q.lt
coprime_unique ns ms (pos v) (pos w) p q e h k i =
    let t = multiples (v + w) v w (omega arith) (omega (arith, ints, p)) (omega (arith, ints, q)) (λ i. get_or ns i (pos 0)) (λ i. get_or ms i (pos 0)) e in
    t.n_is i ∙ ap (λ c. pos c *ℤ t.base i) (h t.a (all_divided t.a ns t.base t.n_is) ∙ sym (k t.b (all_divided t.b ms t.base t.m_is))) ∙ sym (t.m_is i)

-- ---- fractions
-- equal fractions in lowest terms are identical
pub lowest_unique : (x y : Frac) → pos 0 <ℤ x.over → pos 0 <ℤ y.over → Same x y → InLowestTerms x → InLowestTerms y → x ≡ y
lowest_unique x y p q s h k i = let each = coprime_unique (terms x) (terms y) y.over x.over q p cross h k in record { point = record { x = each 0 i; y = each 1 i; z = each 2 i }; over = each 3 i }
  where
    cross : (i : ℕ) → y.over *ℤ get_or (terms x) i (pos 0) ≡ x.over *ℤ get_or (terms y) i (pos 0)
    cross zero = ap (λ t. t.x) s
    cross (suc zero) = ap (λ t. t.y) s
    cross (suc (suc zero)) = ap (λ t. t.z) s
    cross (suc (suc (suc zero))) = solve (x.over ∷ y.over ∷ []) (var 1 ⊗ var 0) (var 0 ⊗ var 1) refl
    cross (suc (suc (suc (suc i)))) = solve (x.over ∷ y.over ∷ []) (var 1 ⊗ con (pos 0)) (var 0 ⊗ con (pos 0)) refl

-- two bodies have one nearest difference in lowest terms
pub nearest_unique_lowest : {A B : List Pt} (x y : Frac) → Nearest A B x → Nearest A B y → InLowestTerms x → InLowestTerms y → x ≡ y
nearest_unique_lowest x y n m = lowest_unique x y n.reached.positive m.reached.positive (nearest_unique x y n m)

-- ---- ratios
-- equal ratios in lowest terms are identical
pub ratio_unique : (p q r s : ℤ) → pos 0 <ℤ q → pos 0 <ℤ s → s *ℤ p ≡ q *ℤ r → Coprime (nat_abs p ∷ nat_abs q ∷ []) → Coprime (nat_abs r ∷ nat_abs s ∷ []) → (p ≡ r) × (q ≡ s)
ratio_unique p q r s hq hs e h k = let each = coprime_unique (p ∷ q ∷ []) (r ∷ s ∷ []) s q hs hq cross h k in (each 0, each 1)
  where
    cross : (i : ℕ) → s *ℤ get_or (p ∷ q ∷ []) i (pos 0) ≡ q *ℤ get_or (r ∷ s ∷ []) i (pos 0)
    cross zero = e
    cross (suc zero) = solve (q ∷ s ∷ []) (var 1 ⊗ var 0) (var 0 ⊗ var 1) refl
    cross (suc (suc i)) = solve (q ∷ s ∷ []) (var 1 ⊗ con (pos 0)) (var 0 ⊗ con (pos 0)) refl

-- two bodies have one square of the nearest difference in lowest terms
pub square_unique_lowest : {A B : List Pt} (x y : Frac) (p q r s : ℤ) → Nearest A B x → Nearest A B y → pos 0 <ℤ q → pos 0 <ℤ s → SquareOf x p q → SquareOf y r s → Coprime (nat_abs p ∷ nat_abs q ∷ []) → Coprime (nat_abs r ∷ nat_abs s ∷ []) → (p ≡ r) × (q ≡ s)
square_unique_lowest x y p q r s n m hq hs e f = ratio_unique p q r s hq hs (square_unique x p q r s n.reached.positive e (square-same y x r s m.reached.positive (nearest_unique y x m n) f))

-- ---- brought to lowest terms
-- a factor of a positive number, by a positive one
positive-factor : (g w : ℤ) → pos 0 <ℤ g → pos 0 <ℤ (g *ℤ w) → pos 0 <ℤ w
positive-factor g w h p = *ℤ_cancel< g (<ℤ→≤ℤ h) (subst (λ t. t <ℤ (g *ℤ w)) (solve (g ∷ []) (con (pos 0)) (var 0 ⊗ con (pos 0)) refl) p)

positive_pos : {n : ℕ} → 0 < n → pos 0 <ℤ pos n
positive_pos h = omega (arith, ints)

-- y is x in lowest terms
module _ (x y : Frac) (r : Reduced (terms x) (terms y)) where
  part : (i : ℕ) → get_or (terms x) i (pos 0) ≡ get_or (map (λ m. pos r.factor *ℤ m) (terms y)) i (pos 0)
  part i = ap (λ l. get_or l i (pos 0)) r.scaled

  -- it is the same fraction
  pub same_of_reduced : Same x y
  same_of_reduced =
      let X = pt 0 in let Y = pt 1 in let d = var 6 in let e = var 7 in let g = var 8 in
      prove_v (pts (x.point ∷ y.point ∷ []) (x.over ∷ y.over ∷ pos r.factor ∷ [])) (e ⊗ᵛ X) (d ⊗ᵛ Y)
      (by_eq_v e X (g ⊗ᵛ Y) (λ i. record { x = part 0 i; y = part 1 i; z = part 2 i }) ∷ by_eq_v (con (negsuc 0)) (d ⊗ᵛ Y) ((g ⊗ e) ⊗ᵛ Y) (ap (λ t. t ·ᵛ y.point) (part 3)) ∷ []) refl refl refl

  -- over a positive number
  pub over-reduced : pos 0 <ℤ x.over → pos 0 <ℤ y.over
  over-reduced p = positive-factor (pos r.factor) y.over (positive_pos r.positive) (subst (λ t. pos 0 <ℤ t) (part 3) p)

  -- and so equal to what x is equal to
  pub same-reduced : (z : Frac) → pos 0 <ℤ x.over → Same x z → Same y z
  same-reduced z p s = same_trans y x z p (sym same_of_reduced) s

  -- the nearest difference, in lowest terms
  pub nearest-reduced : {A B : List Pt} → Nearest A B x → Nearest A B y
  nearest-reduced n = nearest-same x y same_of_reduced (over-reduced n.reached.positive) n

-- p / q is k / w in lowest terms
module _ {k w p q : ℤ} (r : Reduced (k ∷ w ∷ []) (p ∷ q ∷ [])) where
  abbrev g : ℤ
  g = pos r.factor

  bottom : w ≡ g *ℤ q
  bottom = ap (λ l. get_or l 1 (pos 0)) r.scaled

  -- over a positive number
  pub bottom_reduced : pos 0 <ℤ w → pos 0 <ℤ q
  bottom_reduced h = positive-factor g q (positive_pos r.positive) (subst (λ t. pos 0 <ℤ t) bottom h)

  -- the square of a fraction in lowest terms
  pub square-reduced : (x : Frac) → SquareOf x k w → SquareOf x p q
  square-reduced x e =
      let n = var 0 in let d = var 1 in let K = var 2 in let W = var 3 in let P = var 4 in let Q = var 5 in let G = var 6 in
      *ℤ_cancel g (positive_pos r.positive) (prove≡ (dot x.point x.point ∷ x.over ∷ k ∷ w ∷ p ∷ q ∷ g ∷ []) (G ⊗ (Q ⊗ n)) (G ⊗ (P ⊗ (d ⊗ d)))
      (by_eq (con (pos 1)) (W ⊗ n) (K ⊗ (d ⊗ d)) e ∷ by_eq (neg n) W (G ⊗ Q) bottom ∷ by_eq (d ⊗ d) K (G ⊗ P) (ap (λ l. get_or l 0 (pos 0)) r.scaled) ∷ []) refl)
