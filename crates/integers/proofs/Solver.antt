-- A solver for polynomial identities over ℤ, by reflection: `solve ρ l r refl` proves `eval ρ l ≡ eval ρ r`.
-- A polynomial is a list of terms in ascending order of their monomials. A monomial is one native number, whose digit i to the base 256 is the exponent of the variable i,
-- so that a product of monomials is a sum and their order is the native comparison. A total degree below 256 keeps the digits from carrying (`residue` tests that).
use Rattle.std.proofs.Common.{◌≡◌, ℕ, zero, suc, ◌+◌, ◌*◌, ◌/◌, ◌%◌, ◌^◌, ◌<◌, ◌≤◌, max, T, List, [], ◌∷◌, ℤ, pos, negsuc, ◌+ℤ◌, ◌-ℤ◌, ◌*ℤ◌, neg_ℤ, sym, refl, ap, ◌∙◌, subst, ap₂, arith, eqb→eq, leb→le}
use Prim.Native.Nat.{compare, Ordering}
use native.Mathlib.Nat.{pow-succ'}
use lib.Dec.{is_le, compare_is_eq}
use lib.IntN.{pow, one, zero-*ℤ, *ℤ-zero, *ℤ-one, *ℤ_comm, +ℤ_idr}
use Rattle.std.proofs.lemmas.Int.{ints}
use Rattle.integers.proofs.Laws.{*ℤ-+ℤ, +ℤ-*ℤ, *ℤ_swap, one-*ℤ, negℤ_is, pow_add}

-- ---- expressions
infixl 6 ◌⊕◌ ◌⊖◌
infixl 7 ◌⊗◌
pub data Exp : Type 0 where
  var : ℕ → Exp
  con : ℤ → Exp
  ◌⊕◌ ◌⊖◌ ◌⊗◌ : Exp → Exp → Exp
  neg : Exp → Exp

abbrev pub nth : List ℤ → ℕ → ℤ
nth [] i = pos 1
nth (x ∷ ρ) zero = x
nth (x ∷ ρ) (suc i) = nth ρ i

abbrev pub eval : List ℤ → Exp → ℤ
eval ρ (var i) = nth ρ i
eval ρ (con c) = c
eval ρ (a ⊕ b) = eval ρ a +ℤ eval ρ b
eval ρ (a ⊖ b) = eval ρ a -ℤ eval ρ b
eval ρ (a ⊗ b) = eval ρ a *ℤ eval ρ b
eval ρ (neg a) = neg_ℤ (eval ρ a)

-- ---- polynomials
pub data Poly : Type 0 where
  nil : Poly
  term : ℤ → ℕ → Poly → Poly

-- a branch that is not taken is not computed
abbrev pub pick : Ordering → (Unit {0} → Poly) → (Unit {0} → Poly) → (Unit {0} → Poly) → Poly
pick Ordering.lt f g h = f tt
pick Ordering.eq f g h = g tt
pick Ordering.gt f g h = h tt

abbrev pub put : ℤ → ℕ → Poly → Poly
put (pos zero) m p = p
put (pos (suc k)) m p = term (pos (suc k)) m p
put (negsuc k) m p = term (negsuc k) m p

-- the term c m in front of what f merges
abbrev pub into : ℤ → ℕ → (Poly → Poly) → Poly → Poly
into c m f nil = term c m (f nil)
into c m f (term d n q) = pick (compare m n) (λ _. term c m (f (term d n q))) (λ _. put (c +ℤ d) m (f q)) (λ _. term d n (into c m f q))

abbrev pub padd : Poly → Poly → Poly
padd nil q = q
padd (term c m p) q = into c m (padd p) q

abbrev pub pscale : ℤ → ℕ → Poly → Poly
pscale c m nil = nil
pscale c m (term d n q) = term (c *ℤ d) (m + n) (pscale c m q)

-- a product: the rows, one for each term of p, and then two and two of them added, and again
abbrev pub rows : Poly → Poly → List Poly
rows nil q = []
rows (term c m p) q = pscale c m q ∷ rows p q

abbrev pub pairs : List Poly → List Poly
pairs [] = []
pairs (p ∷ []) = p ∷ []
pairs (p ∷ (q ∷ ps)) = padd p q ∷ pairs ps

abbrev pub gather : List Poly → Poly
gather [] = nil
gather (p ∷ ps) = padd p (gather ps)

abbrev pub rounds : ℕ → List Poly → Poly
rounds zero ps = gather ps
rounds (suc k) [] = nil
rounds (suc k) (p ∷ []) = p
rounds (suc k) (p ∷ (q ∷ ps)) = rounds k (padd p q ∷ pairs ps)

abbrev pub pmul : Poly → Poly → Poly
pmul p q = rounds 16 (rows p q)

abbrev pub norm : Exp → Poly
norm (var i) = term (pos 1) (256 ^ i) nil
norm (con c) = put c 0 nil
norm (a ⊕ b) = padd (norm a) (norm b)
norm (a ⊖ b) = padd (norm a) (pscale (negsuc 0) 0 (norm b))
norm (a ⊗ b) = pmul (norm a) (norm b)
norm (neg a) = pscale (negsuc 0) 0 (norm a)

abbrev pub deg : Exp → ℕ
deg (var i) = 1
deg (con c) = 0
deg (a ⊕ b) = max (deg a) (deg b)
deg (a ⊖ b) = max (deg a) (deg b)
deg (a ⊗ b) = deg a + deg b
deg (neg a) = deg a

abbrev pub residue : Exp → Exp → Poly
residue l r = pick (compare (deg (l ⊖ r)) 255) (λ _. norm (l ⊖ r)) (λ _. term (pos 1) 0 nil) (λ _. term (pos 1) 0 nil)

-- ---- what they mean
meval : List ℤ → ℕ → ℤ
meval [] m = pos 1
meval (x ∷ ρ) m = pow x (m % 256) *ℤ meval ρ (m / 256)

dsum : List ℤ → ℕ → ℕ
dsum [] m = 0
dsum (x ∷ ρ) m = m % 256 + dsum ρ (m / 256)

peval : List ℤ → Poly → ℤ
peval ρ nil = pos 0
peval ρ (term c m p) = c *ℤ meval ρ m +ℤ peval ρ p

Low : List ℤ → ℕ → Poly → Type 0
Low ρ d nil = Unit {0}
Low ρ d (term c m p) = (dsum ρ m ≤ d) × Low ρ d p

pick_ind : (P : Poly → Type 0) (o : Ordering) (f g h : Unit {0} → Poly) → (o ≡ Ordering.lt → P (f tt)) → (o ≡ Ordering.eq → P (g tt)) → (o ≡ Ordering.gt → P (h tt)) → P (pick o f g h)
pick_ind P Ordering.lt f g h a b c = a refl
pick_ind P Ordering.eq f g h a b c = b refl
pick_ind P Ordering.gt f g h a b c = c refl

-- ---- monomials
module _ (m n s t : ℕ) (h : m % 256 + s + (n % 256 + t) < 256) where
  digit : (m + n) % 256 ≡ m % 256 + n % 256
  digit = omega arith

  rest : (m + n) / 256 ≡ m / 256 + n / 256
  rest = omega arith

  room : s + t < 256
  room = omega arith

mono : (ρ : List ℤ) (m n : ℕ) → dsum ρ m + dsum ρ n < 256 → meval ρ (m + n) ≡ meval ρ m *ℤ meval ρ n
unfolding meval dsum
mono [] m n h = refl
mono (x ∷ ρ) m n h =
    ap₂ (λ a b. pow x a *ℤ meval ρ b) (digit m n (dsum ρ (m / 256)) (dsum ρ (n / 256)) h) (rest m n (dsum ρ (m / 256)) (dsum ρ (n / 256)) h)
    ∙ ap₂ ◌*ℤ◌ (pow_add x (m % 256) (n % 256)) (mono ρ (m / 256) (n / 256) (room m n (dsum ρ (m / 256)) (dsum ρ (n / 256)) h))
    ∙ *ℤ_swap (pow x (m % 256)) (pow x (n % 256)) (meval ρ (m / 256)) (meval ρ (n / 256))

dsum_add : (ρ : List ℤ) (m n : ℕ) → dsum ρ m + dsum ρ n < 256 → dsum ρ (m + n) ≡ dsum ρ m + dsum ρ n
unfolding dsum
dsum_add [] m n h = refl
dsum_add (x ∷ ρ) m n h =
    ap₂ (λ a b. a + dsum ρ b) (digit m n (dsum ρ (m / 256)) (dsum ρ (n / 256)) h) (rest m n (dsum ρ (m / 256)) (dsum ρ (n / 256)) h)
    ∙ ap (λ t. m % 256 + n % 256 + t) (dsum_add ρ (m / 256) (n / 256) (room m n (dsum ρ (m / 256)) (dsum ρ (n / 256)) h))
    ∙ four (m % 256) (n % 256) (dsum ρ (m / 256)) (dsum ρ (n / 256))
  where
    four : (a b c d : ℕ) → a + b + (c + d) ≡ a + c + (b + d)
    four a b c d = omega arith

meval_zero : (ρ : List ℤ) → meval ρ 0 ≡ pos 1
unfolding meval pow one
meval_zero [] = refl
meval_zero (x ∷ ρ) = one-*ℤ (meval ρ 0) ∙ meval_zero ρ

dsum_zero : (ρ : List ℤ) → dsum ρ 0 ≡ 0
unfolding dsum
dsum_zero [] = refl
dsum_zero (x ∷ ρ) = ap (λ t. 0 + t) (dsum_zero ρ)

digit_pow : (i : ℕ) → 256 ^ suc i % 256 ≡ 0
digit_pow i = ap (λ t. t % 256) (pow-succ' 256 i) ∙ go (256 ^ i)
  where
    go : (k : ℕ) → 256 * k % 256 ≡ 0
    go k = omega arith

rest_pow : (i : ℕ) → 256 ^ suc i / 256 ≡ 256 ^ i
rest_pow i = ap (λ t. t / 256) (pow-succ' 256 i) ∙ go (256 ^ i)
  where
    go : (k : ℕ) → 256 * k / 256 ≡ k
    go k = omega arith

meval_var : (ρ : List ℤ) (i : ℕ) → meval ρ (256 ^ i) ≡ nth ρ i
unfolding meval pow one
meval_var [] i = refl
meval_var (x ∷ ρ) zero = ap₂ ◌*ℤ◌ (one-*ℤ x) (meval_zero ρ) ∙ *ℤ-one x
meval_var (x ∷ ρ) (suc i) = ap₂ (λ a b. pow x a *ℤ meval ρ b) (digit_pow i) (rest_pow i) ∙ one-*ℤ (meval ρ (256 ^ i)) ∙ meval_var ρ i

dsum_var : (ρ : List ℤ) (i : ℕ) → dsum ρ (256 ^ i) ≤ 1
unfolding dsum
dsum_var [] i = omega arith
dsum_var (x ∷ ρ) zero = omega (arith, dsum_zero ρ)
dsum_var (x ∷ ρ) (suc i) = rw (digit_pow i, rest_pow i) (omega (arith, dsum_var ρ i))

-- ---- polynomials: sums
exchange : (a b c d : ℤ) → a +ℤ b +ℤ (c +ℤ d) ≡ c +ℤ (a +ℤ b +ℤ d)
exchange a b c d = omega (arith, ints)

join : (a b c d : ℤ) → a +ℤ c +ℤ (b +ℤ d) ≡ a +ℤ b +ℤ (c +ℤ d)
join a b c d = omega (arith, ints)

behind : (a b c : ℤ) → a +ℤ (b +ℤ c) ≡ a +ℤ b +ℤ c
behind a b c = omega (arith, ints)

put_sound : (ρ : List ℤ) (c : ℤ) (m : ℕ) (p : Poly) → peval ρ (put c m p) ≡ c *ℤ meval ρ m +ℤ peval ρ p
unfolding peval
put_sound ρ (pos zero) m p = sym (ap (λ t. t +ℤ peval ρ p) (zero-*ℤ (meval ρ m)) ∙ idl (peval ρ p))
  where
    idl : (a : ℤ) → pos 0 +ℤ a ≡ a
    idl a = omega (arith, ints)
put_sound ρ (pos (suc k)) m p = refl
put_sound ρ (negsuc k) m p = refl

same : (m n : ℕ) → compare m n ≡ Ordering.eq → m ≡ n
same m n e = eqb→eq m n (subst (λ o. T (compare_is_eq o)) (sym e) tt)

into_sound : (ρ : List ℤ) (c : ℤ) (m : ℕ) (f : Poly → Poly) (v : ℤ) → ((q : Poly) → peval ρ (f q) ≡ v +ℤ peval ρ q) → (q : Poly) → peval ρ (into c m f q) ≡ c *ℤ meval ρ m +ℤ v +ℤ peval ρ q
unfolding peval
into_sound ρ c m f v h nil = ap (λ t. c *ℤ meval ρ m +ℤ t) (h nil) ∙ behind (c *ℤ meval ρ m) v (pos 0)
into_sound ρ c m f v h (term d n q) = pick_ind (λ x. peval ρ x ≡ c *ℤ meval ρ m +ℤ v +ℤ (d *ℤ meval ρ n +ℤ peval ρ q)) (compare m n) (λ _. term c m (f (term d n q))) (λ _. put (c +ℤ d) m (f q)) (λ _. term d n (into c m f q))
    (λ _. ap (λ t. c *ℤ meval ρ m +ℤ t) (h (term d n q)) ∙ behind (c *ℤ meval ρ m) v (d *ℤ meval ρ n +ℤ peval ρ q))
    (λ e. put_sound ρ (c +ℤ d) m (f q) ∙ ap₂ ◌+ℤ◌ (+ℤ-*ℤ c d (meval ρ m) ∙ ap (λ t. c *ℤ meval ρ m +ℤ d *ℤ meval ρ t) (same m n e)) (h q) ∙ join (c *ℤ meval ρ m) v (d *ℤ meval ρ n) (peval ρ q))
    (λ _. ap (λ t. d *ℤ meval ρ n +ℤ t) (into_sound ρ c m f v h q) ∙ sym (exchange (c *ℤ meval ρ m) v (d *ℤ meval ρ n) (peval ρ q)))

padd_sound : (ρ : List ℤ) (p q : Poly) → peval ρ (padd p q) ≡ peval ρ p +ℤ peval ρ q
unfolding peval
padd_sound ρ nil q = sym (idl (peval ρ q))
  where
    idl : (a : ℤ) → pos 0 +ℤ a ≡ a
    idl a = omega (arith, ints)
padd_sound ρ (term c m p) q = into_sound ρ c m (padd p) (peval ρ p) (padd_sound ρ p) q

-- ---- polynomials: degrees
low_up : (ρ : List ℤ) (d e : ℕ) → d ≤ e → (p : Poly) → Low ρ d p → Low ρ e p
unfolding Low
low_up ρ d e h nil l = tt
low_up ρ d e h (term c m p) l = (omega arith, low_up ρ d e h p l.1)

put_low : (ρ : List ℤ) (d : ℕ) (c : ℤ) (m : ℕ) (p : Poly) → dsum ρ m ≤ d → Low ρ d p → Low ρ d (put c m p)
unfolding Low
put_low ρ d (pos zero) m p h l = l
put_low ρ d (pos (suc k)) m p h l = (h, l)
put_low ρ d (negsuc k) m p h l = (h, l)

into_low : (ρ : List ℤ) (d : ℕ) (c : ℤ) (m : ℕ) (f : Poly → Poly) → dsum ρ m ≤ d → ((q : Poly) → Low ρ d q → Low ρ d (f q)) → (q : Poly) → Low ρ d q → Low ρ d (into c m f q)
unfolding Low
into_low ρ d c m f k h nil l = (k, h nil tt)
into_low ρ d c m f k h (term b n q) l = pick_ind (λ x. Low ρ d x) (compare m n) (λ _. term c m (f (term b n q))) (λ _. put (c +ℤ b) m (f q)) (λ _. term b n (into c m f q))
    (λ _. (k, h (term b n q) l))
    (λ _. put_low ρ d (c +ℤ b) m (f q) k (h q l.1))
    (λ _. (l.0, into_low ρ d c m f k h q l.1))

padd_low : (ρ : List ℤ) (d : ℕ) (p q : Poly) → Low ρ d p → Low ρ d q → Low ρ d (padd p q)
unfolding Low
padd_low ρ d nil q l k = k
padd_low ρ d (term c m p) q l k = into_low ρ d c m (padd p) l.0 (λ r j. padd_low ρ d p r l.1 j) q k

-- ---- polynomials: products
pscale_sound : (ρ : List ℤ) (d : ℕ) (c : ℤ) (m : ℕ) → dsum ρ m + d < 256 → (q : Poly) → Low ρ d q → peval ρ (pscale c m q) ≡ c *ℤ meval ρ m *ℤ peval ρ q
unfolding peval Low
pscale_sound ρ d c m h nil l = sym (*ℤ-zero (c *ℤ meval ρ m))
pscale_sound ρ d c m h (term b n q) l =
    ap₂ ◌+ℤ◌ (ap (λ t. c *ℤ b *ℤ t) (mono ρ m n (omega arith)) ∙ *ℤ_swap c b (meval ρ m) (meval ρ n)) (pscale_sound ρ d c m h q l.1)
    ∙ sym (*ℤ-+ℤ (c *ℤ meval ρ m) (b *ℤ meval ρ n) (peval ρ q))

pscale_low : (ρ : List ℤ) (s d : ℕ) (c : ℤ) (m : ℕ) → dsum ρ m ≤ s → s + d < 256 → (q : Poly) → Low ρ d q → Low ρ (s + d) (pscale c m q)
unfolding Low
pscale_low ρ s d c m k h nil l = tt
pscale_low ρ s d c m k h (term b n q) l = (omega (arith, dsum_add ρ m n (omega arith)), pscale_low ρ s d c m k h q l.1)

psum : List ℤ → List Poly → ℤ
psum ρ [] = pos 0
psum ρ (p ∷ ps) = peval ρ p +ℤ psum ρ ps

Lows : List ℤ → ℕ → List Poly → Type 0
Lows ρ d [] = Unit {0}
Lows ρ d (p ∷ ps) = Low ρ d p × Lows ρ d ps

rows_sound : (ρ : List ℤ) (s d : ℕ) → s + d < 256 → (p q : Poly) → Low ρ s p → Low ρ d q → psum ρ (rows p q) ≡ peval ρ p *ℤ peval ρ q
unfolding peval Low psum
rows_sound ρ s d h nil q l k = sym (zero-*ℤ (peval ρ q))
rows_sound ρ s d h (term c m p) q l k =
    ap₂ ◌+ℤ◌ (pscale_sound ρ d c m (omega arith) q k) (rows_sound ρ s d h p q l.1 k)
    ∙ sym (+ℤ-*ℤ (c *ℤ meval ρ m) (peval ρ p) (peval ρ q))

rows_low : (ρ : List ℤ) (s d : ℕ) → s + d < 256 → (p q : Poly) → Low ρ s p → Low ρ d q → Lows ρ (s + d) (rows p q)
unfolding Low Lows
rows_low ρ s d h nil q l k = tt
rows_low ρ s d h (term c m p) q l k = (pscale_low ρ s d c m l.0 h q k, rows_low ρ s d h p q l.1 k)

pairs-sound : (ρ : List ℤ) (ps : List Poly) → psum ρ (pairs ps) ≡ psum ρ ps
unfolding psum
pairs-sound ρ [] = refl
pairs-sound ρ (p ∷ []) = refl
pairs-sound ρ (p ∷ (q ∷ ps)) = ap₂ ◌+ℤ◌ (padd_sound ρ p q) (pairs-sound ρ ps) ∙ sym (behind (peval ρ p) (peval ρ q) (psum ρ ps))

pairs-low : (ρ : List ℤ) (d : ℕ) (ps : List Poly) → Lows ρ d ps → Lows ρ d (pairs ps)
unfolding Lows
pairs-low ρ d [] l = tt
pairs-low ρ d (p ∷ []) l = l
pairs-low ρ d (p ∷ (q ∷ ps)) l = (padd_low ρ d p q l.0 l.1.0, pairs-low ρ d ps l.1.1)

gather_sound : (ρ : List ℤ) (ps : List Poly) → peval ρ (gather ps) ≡ psum ρ ps
unfolding psum peval
gather_sound ρ [] = refl
gather_sound ρ (p ∷ ps) = padd_sound ρ p (gather ps) ∙ ap (λ t. peval ρ p +ℤ t) (gather_sound ρ ps)

gather_low : (ρ : List ℤ) (d : ℕ) (ps : List Poly) → Lows ρ d ps → Low ρ d (gather ps)
unfolding Lows Low
gather_low ρ d [] l = tt
gather_low ρ d (p ∷ ps) l = padd_low ρ d p (gather ps) l.0 (gather_low ρ d ps l.1)

rounds_sound : (ρ : List ℤ) (k : ℕ) (ps : List Poly) → peval ρ (rounds k ps) ≡ psum ρ ps
unfolding psum peval
rounds_sound ρ zero ps = gather_sound ρ ps
rounds_sound ρ (suc k) [] = refl
rounds_sound ρ (suc k) (p ∷ []) = sym (+ℤ_idr (peval ρ p))
rounds_sound ρ (suc k) (p ∷ (q ∷ ps)) = rounds_sound ρ k (padd p q ∷ pairs ps) ∙ pairs-sound ρ (p ∷ (q ∷ ps))

rounds_low : (ρ : List ℤ) (d k : ℕ) (ps : List Poly) → Lows ρ d ps → Low ρ d (rounds k ps)
unfolding Lows Low
rounds_low ρ d zero ps l = gather_low ρ d ps l
rounds_low ρ d (suc k) [] l = tt
rounds_low ρ d (suc k) (p ∷ []) l = l.0
rounds_low ρ d (suc k) (p ∷ (q ∷ ps)) l = rounds_low ρ d k (padd p q ∷ pairs ps) (pairs-low ρ d (p ∷ (q ∷ ps)) l)

pmul_sound : (ρ : List ℤ) (s d : ℕ) → s + d < 256 → (p q : Poly) → Low ρ s p → Low ρ d q → peval ρ (pmul p q) ≡ peval ρ p *ℤ peval ρ q
pmul_sound ρ s d h p q l k = rounds_sound ρ 16 (rows p q) ∙ rows_sound ρ s d h p q l k

pmul_low : (ρ : List ℤ) (s d : ℕ) → s + d < 256 → (p q : Poly) → Low ρ s p → Low ρ d q → Low ρ (s + d) (pmul p q)
pmul_low ρ s d h p q l k = rounds_low ρ (s + d) 16 (rows p q) (rows_low ρ s d h p q l k)

negated : (ρ : List ℤ) (d : ℕ) → d < 256 → (p : Poly) → Low ρ d p → peval ρ (pscale (negsuc 0) 0 p) ≡ neg_ℤ (peval ρ p)
negated ρ d h p l =
    pscale_sound ρ d (negsuc 0) 0 (omega (arith, dsum_zero ρ)) p l ∙ ap (λ t. negsuc 0 *ℤ t *ℤ peval ρ p) (meval_zero ρ) ∙ sym (negℤ_is (peval ρ p))

negated_low : (ρ : List ℤ) (d : ℕ) → d < 256 → (p : Poly) → Low ρ d p → Low ρ d (pscale (negsuc 0) 0 p)
negated_low ρ d h p l = low_up ρ (0 + d) d (omega arith) (pscale (negsuc 0) 0 p) (pscale_low ρ 0 d (negsuc 0) 0 (omega (arith, dsum_zero ρ)) (omega arith) p l)

-- ---- the normal form
norm_low : (ρ : List ℤ) (e : Exp) → deg e < 256 → Low ρ (deg e) (norm e)
unfolding Low
norm_low ρ (var i) h = (dsum_var ρ i, tt)
norm_low ρ (con c) h = put_low ρ 0 c 0 nil (omega (arith, dsum_zero ρ)) tt
norm_low ρ (a ⊕ b) h = padd_low ρ (max (deg a) (deg b)) (norm a) (norm b)
    (low_up ρ (deg a) (max (deg a) (deg b)) (omega arith) (norm a) (norm_low ρ a (omega arith)))
    (low_up ρ (deg b) (max (deg a) (deg b)) (omega arith) (norm b) (norm_low ρ b (omega arith)))
norm_low ρ (a ⊖ b) h = padd_low ρ (max (deg a) (deg b)) (norm a) (pscale (negsuc 0) 0 (norm b))
    (low_up ρ (deg a) (max (deg a) (deg b)) (omega arith) (norm a) (norm_low ρ a (omega arith)))
    (low_up ρ (deg b) (max (deg a) (deg b)) (omega arith) (pscale (negsuc 0) 0 (norm b)) (negated_low ρ (deg b) (omega arith) (norm b) (norm_low ρ b (omega arith))))
norm_low ρ (a ⊗ b) h = pmul_low ρ (deg a) (deg b) h (norm a) (norm b) (norm_low ρ a (omega arith)) (norm_low ρ b (omega arith))
norm_low ρ (neg a) h = negated_low ρ (deg a) h (norm a) (norm_low ρ a h)

norm_sound : (ρ : List ℤ) (e : Exp) → deg e < 256 → peval ρ (norm e) ≡ eval ρ e
unfolding peval
norm_sound ρ (var i) h = +ℤ_idr (pos 1 *ℤ meval ρ (256 ^ i)) ∙ one-*ℤ (meval ρ (256 ^ i)) ∙ meval_var ρ i
norm_sound ρ (con c) h = put_sound ρ c 0 nil ∙ +ℤ_idr (c *ℤ meval ρ 0) ∙ ap (λ t. c *ℤ t) (meval_zero ρ) ∙ *ℤ_comm c (pos 1) ∙ one-*ℤ c
norm_sound ρ (a ⊕ b) h = padd_sound ρ (norm a) (norm b) ∙ ap₂ ◌+ℤ◌ (norm_sound ρ a (omega arith)) (norm_sound ρ b (omega arith))
norm_sound ρ (a ⊖ b) h = padd_sound ρ (norm a) (pscale (negsuc 0) 0 (norm b)) ∙ ap₂ ◌+ℤ◌ (norm_sound ρ a (omega arith))
    (negated ρ (deg b) (omega arith) (norm b) (norm_low ρ b (omega arith)) ∙ ap neg_ℤ (norm_sound ρ b (omega arith)))
norm_sound ρ (a ⊗ b) h = pmul_sound ρ (deg a) (deg b) h (norm a) (norm b) (norm_low ρ a (omega arith)) (norm_low ρ b (omega arith)) ∙ ap₂ ◌*ℤ◌ (norm_sound ρ a (omega arith)) (norm_sound ρ b (omega arith))
norm_sound ρ (neg a) h = negated ρ (deg a) h (norm a) (norm_low ρ a h) ∙ ap neg_ℤ (norm_sound ρ a h)

-- ---- the solver
pub solve : (ρ : List ℤ) (l r : Exp) → residue l r ≡ nil → eval ρ l ≡ eval ρ r
unfolding peval
solve ρ l r e = pick_ind (λ x. x ≡ nil → eval ρ l ≡ eval ρ r) (compare (deg (l ⊖ r)) 255) (λ _. norm (l ⊖ r)) (λ _. term (pos 1) 0 nil) (λ _. term (pos 1) 0 nil)
    (λ c n. apart (eval ρ l) (eval ρ r) (sym (norm_sound ρ (l ⊖ r) (below (deg (l ⊖ r)) c)) ∙ ap (peval ρ) n)) (λ _ n. absurd (never n)) (λ _ n. absurd (never n)) e
  where
    apart : (a b : ℤ) → a -ℤ b ≡ pos 0 → a ≡ b
    apart a b h = omega (arith, ints)

    below : (m : ℕ) → compare m 255 ≡ Ordering.lt → m < 256
    below m c = omega (arith, leb→le m 255 (subst (λ o. T (is_le o)) (sym c) tt))

    never : term (pos 1) 0 nil ≡ nil → ⊥
    never n = let z : ◌≡◌ {A = ℕ} 0 1 = cc in omega arith
