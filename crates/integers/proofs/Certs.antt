-- Inequalities and equations from hypotheses, by a certificate: a list of quantities that are not negative, whose sum is the difference of the two sides by computation.
use Rattle.std.proofs.Common.{◌≡◌, ℕ, List, [], ◌∷◌, ℤ, pos, ◌+ℤ◌, ◌-ℤ◌, ◌*ℤ◌, ◌≤ℤ◌, ◌<ℤ◌, refl, arith}
use Rattle.std.proofs.lemmas.Int.{ints}
use Rattle.integers.proofs.Solver.{Exp, con, ◌⊕◌, ◌⊗◌, ◌⊖◌, eval, residue, nil, solve}
use Rattle.integers.proofs.Order.{gap, *ℤ_nonneg, sq_nonneg, ≤ℤ_by, +ℤ_nonneg}

pub record Fact (ρ : List ℤ) : Type 0 where
  pub gives : Exp
  pub holds : pos 0 ≤ℤ (eval ρ gives)

-- ---- facts
-- r − l, of l ≤ r; l < r gives r − l − 1
abbrev pub le : {ρ : List ℤ} (l r : Exp) → (eval ρ l) ≤ℤ (eval ρ r) → Fact ρ
le l r h = record { gives = r ⊖ l; holds = gap h }

pub less : {a b : ℤ} → a <ℤ b → pos 0 ≤ℤ (b -ℤ a -ℤ pos 1)
less h = omega (arith, ints)

abbrev pub lt : {ρ : List ℤ} (l r : Exp) → (eval ρ l) <ℤ (eval ρ r) → Fact ρ
lt l r h = record { gives = r ⊖ l ⊖ con (pos 1); holds = less h }

abbrev pub nn : {ρ : List ℤ} (e : Exp) → pos 0 ≤ℤ (eval ρ e) → Fact ρ
nn e h = record { gives = e; holds = h }

abbrev pub sq : {ρ : List ℤ} (e : Exp) → Fact ρ
sq {ρ} e = record { gives = e ⊗ e; holds = sq_nonneg (eval ρ e) }

pub num_nonneg : (n : ℕ) → pos 0 ≤ℤ pos n
num_nonneg n = omega (arith, ints)

abbrev pub num : {ρ : List ℤ} (n : ℕ) → Fact ρ
num n = record { gives = con (pos n); holds = num_nonneg n }

infixr 70 ◌⊠◌
abbrev pub ◌⊠◌ : {ρ : List ℤ} → Fact ρ → Fact ρ → Fact ρ
f ⊠ g = record { gives = f.gives ⊗ g.gives; holds = *ℤ_nonneg f.holds g.holds }

-- k (p − q), of p ≡ q, with any factor k
pub nothing : (k p q : ℤ) → p ≡ q → pos 0 ≤ℤ (k *ℤ (p -ℤ q))
nothing k p q e = let z : p -ℤ q ≡ pos 0 = omega (arith, ints) in rw z (omega (arith, ints))

abbrev pub eq : {ρ : List ℤ} (k p q : Exp) → eval ρ p ≡ eval ρ q → Fact ρ
eq {ρ} k p q e = record { gives = k ⊗ (p ⊖ q); holds = nothing (eval ρ k) (eval ρ p) (eval ρ q) e }

-- ---- their sum
abbrev pub total : {ρ : List ℤ} → List (Fact ρ) → Exp
total [] = con (pos 0)
total (f ∷ fs) = f.gives ⊕ total fs

total_nonneg : (ρ : List ℤ) (fs : List (Fact ρ)) → pos 0 ≤ℤ (eval ρ (total fs))
total_nonneg ρ [] = omega (arith, ints)
total_nonneg ρ (f ∷ fs) = +ℤ_nonneg f.holds (total_nonneg ρ fs)

-- l ≤ r
pub prove≤ : (ρ : List ℤ) (l r : Exp) (fs : List (Fact ρ)) → residue r (l ⊕ total fs) ≡ nil → (eval ρ l) ≤ℤ (eval ρ r)
prove≤ ρ l r fs e = ≤ℤ_by (solve ρ r (l ⊕ total fs) e) (total_nonneg ρ fs)

-- l < r: the facts come to r − l − 1
pub prove< : (ρ : List ℤ) (l r : Exp) (fs : List (Fact ρ)) → residue r (l ⊕ con (pos 1) ⊕ total fs) ≡ nil → (eval ρ l) <ℤ (eval ρ r)
prove< ρ l r fs e = after (eval ρ l) (eval ρ r) (eval ρ (total fs)) (solve ρ r (l ⊕ con (pos 1) ⊕ total fs) e) (total_nonneg ρ fs)
  where
    after : (a b d : ℤ) → b ≡ a +ℤ pos 1 +ℤ d → pos 0 ≤ℤ d → a <ℤ b
    after a b d e h = omega (arith, ints)

-- l = r, from equations: l − r = k₁ (p₁ − q₁) + …
pub record Eqn (ρ : List ℤ) : Type 0 where
  pub factor : Exp
  pub left : Exp
  pub right : Exp
  pub holds : eval ρ left ≡ eval ρ right

abbrev pub by_eq : {ρ : List ℤ} (k p q : Exp) → eval ρ p ≡ eval ρ q → Eqn ρ
by_eq k p q e = record { factor = k; left = p; right = q; holds = e }

abbrev pub sum : {ρ : List ℤ} → List (Eqn ρ) → Exp
sum [] = con (pos 0)
sum (f ∷ fs) = f.factor ⊗ (f.left ⊖ f.right) ⊕ sum fs

sum_zero : (ρ : List ℤ) (fs : List (Eqn ρ)) → eval ρ (sum fs) ≡ pos 0
sum_zero ρ [] = refl
sum_zero ρ (f ∷ fs) = step (eval ρ f.factor) (eval ρ f.left) (eval ρ f.right) (eval ρ (sum fs)) f.holds (sum_zero ρ fs)
  where
    step : (k p q s : ℤ) → p ≡ q → s ≡ pos 0 → k *ℤ (p -ℤ q) +ℤ s ≡ pos 0
    step k p q s e z = let d : p -ℤ q ≡ pos 0 = omega (arith, ints) in rw (d, z) (omega (arith, ints))

pub prove≡ : (ρ : List ℤ) (l r : Exp) (fs : List (Eqn ρ)) → residue l (r ⊕ sum fs) ≡ nil → eval ρ l ≡ eval ρ r
prove≡ ρ l r fs e = drop (eval ρ l) (eval ρ r) (eval ρ (sum fs)) (solve ρ l (r ⊕ sum fs) e) (sum_zero ρ fs)
  where
    drop : (a b d : ℤ) → a ≡ b +ℤ d → d ≡ pos 0 → a ≡ b
    drop a b d e z = omega (arith, ints)
