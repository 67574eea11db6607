-- A test that computes over the whole table, and what it says of a row that passes it.
use Rattle.std.proofs.Common.{◌≡◌, ℕ, ◌<◌, Bool, true, false, T, eqb, ltb, List, [], ◌∷◌, length, ℤ, pos, ◌*ℤ◌, nat_abs, ◌<ℤ◌, ap, arith, eqb→eq, ltb→lt}
use lib.Signed.{le_z, lt_z}
use Rattle.std.specs.List.{AllByRecursion}
use Rattle.std.proofs.lemmas.Int.{ints}
use Rattle.integers.specs.Points.{Pt, ◌-ᵛ◌, ◌·ᵛ◌, dot}
use Rattle.integers.specs.Divisors.{Coprime}
use Rattle.integers.proofs.Order.{≤ℤ_antisym}
use Rattle.integers.proofs.Overflow.{both, both_left, both_right}
use Rattle.integers.proofs.Divisors.{weighted, coprime_by}
use Rattle.convex.specs.Fractions.{Frac, ◌÷◌, SquareOf, ◌less◌}
use Rattle.convex.specs.Means.{Weights, Nearest, sum_of, total}
use Rattle.convex.specs.Lowest.{terms, InLowestTerms}
use Rattle.convex.proofs.Stopping.{nearest_stops}
use Rattle.convex.proofs.Lowest.{nearest_unique_lowest, square_unique_lowest}
use Rattle.nearest.specs.Measurements.{reported}
use Rattle.worked.specs.Table.{Row, Correct, table}
use Rattle.worked.proofs.Certificates.{Certificate, certificates}

-- ---- tests that compute
abbrev eq_z : ℤ → ℤ → Bool
eq_z a b = both (le_z a b) (le_z b a)

abbrev eq_p : Pt → Pt → Bool
eq_p a b = both (eq_z a.x b.x) (both (eq_z a.y b.y) (eq_z a.z b.z))

abbrev every : {X : Type 0} → (X → Bool) → List X → Bool
every f [] = true
every f (x ∷ xs) = both (f x) (every f xs)

-- the difference of means by the weights of the certificate
abbrev reached : Row → Certificate → Frac
reached r c = (sum_of c.left r.first ÷ pos (total c.left)) less (sum_of c.right r.second ÷ pos (total c.right))

abbrev weighs : List ℕ → List Pt → Bool
weighs u ys = both (eqb (length u) (length ys)) (ltb 0 (total u))

abbrev stops : Row → Bool
stops r = every (λ a. every (λ b. le_z (dot r.d r.d) (r.w *ℤ dot r.d (a -ᵛ b))) r.second) r.first

abbrev parts : Row → Certificate → List Bool
parts r c =
    weighs c.left r.first
    ∷ weighs c.right r.second
    ∷ lt_z (pos 0) r.w
    ∷ eq_p ((reached r c).over ·ᵛ r.d) (r.w ·ᵛ (reached r c).point)
    ∷ stops r
    ∷ eq_z (weighted c.four (terms (r.d ÷ r.w))) (pos 1)
    ∷ lt_z (pos 0) (pos r.q)
    ∷ eq_z (pos r.q *ℤ dot r.d r.d) (pos r.p *ℤ (r.w *ℤ r.w))
    ∷ eq_z (weighted c.two (pos r.p ∷ pos r.q ∷ [])) (pos 1)
    ∷ []

abbrev test : Row → Certificate → Bool
test r c = every (λ b. b) (parts r c)

abbrev tests : List Row → List Certificate → Bool
tests [] cs = true
tests (r ∷ rs) [] = false
tests (r ∷ rs) (c ∷ cs) = both (test r c) (tests rs cs)

-- ---- what they say
eq_z_is : (a b : ℤ) → T (eq_z a b) → a ≡ b
eq_z_is a b t = ≤ℤ_antisym (record { le = both_left (le_z a b) (le_z b a) t }) (record { le = both_right (le_z a b) (le_z b a) t })

eq_p_is : (a b : Pt) → T (eq_p a b) → a ≡ b
eq_p_is a b t =
    let x = eq_z_is a.x b.x (both_left _ _ t) in
    let y = eq_z_is a.y b.y (both_left _ _ (both_right (eq_z a.x b.x) _ t)) in
    let z = eq_z_is a.z b.z (both_right (eq_z a.y b.y) _ (both_right (eq_z a.x b.x) _ t)) in
    λ i. record { x = x i; y = y i; z = z i }

every-all : {X : Type 0} (P : X → Type 0) (f : X → Bool) → ((x : X) → T (f x) → P x) → (xs : List X) → T (every f xs) → AllByRecursion P xs
every-all P f h [] t = tt
every-all P f h (x ∷ xs) t = (h x (both_left (f x) (every f xs) t), every-all P f h xs (both_right (f x) (every f xs) t))

abbrev weights_by : (u : List ℕ) (ys : List Pt) → T (weighs u ys) → Weights ys
weights_by u ys t = record { each = u; one_each = eqb→eq (length u) (length ys) (both_left _ _ t); some = ltb→lt 0 (total u) (both_right (eqb (length u) (length ys)) _ t) }

-- what a row that passes says of its numbers
record Sound (r : Row) : Type 0 where
  nearest : Nearest r.first r.second (r.d ÷ r.w)
  lowest : InLowestTerms (r.d ÷ r.w)
  over : pos 0 <ℤ pos r.q
  square : SquareOf (r.d ÷ r.w) (pos r.p) (pos r.q)
  reduced : Coprime (r.p ∷ r.q ∷ [])

sound : (r : Row) (c : Certificate) → T (test r c) → Sound r
sound r c t =
    let ok = every-all T (λ b. b) (λ b u. u) (parts r c) t in
    let over : pos 0 <ℤ r.w = record { lt = ok.1.1.0 } in
    record {
      nearest = nearest_stops r.first r.second (r.d ÷ r.w)
          (every-all _ _ (λ a u. every-all _ _ (λ b v. record { le = v }) r.second u) r.first ok.1.1.1.1.0)
          (record { left = weights_by c.left r.first ok.0; right = weights_by c.right r.second ok.1.0; positive = over; value = eq_p_is _ _ ok.1.1.1.0 });
      lowest = coprime_by c.four (terms (r.d ÷ r.w)) (eq_z_is _ _ ok.1.1.1.1.1.0);
      over = record { lt = ok.1.1.1.1.1.1.0 };
      square = eq_z_is _ _ ok.1.1.1.1.1.1.1.0;
      reduced = coprime_by c.two (pos r.p ∷ pos r.q ∷ []) (eq_z_is _ _ ok.1.1.1.1.1.1.1.1.0);
    }

-- a row that passes is what a measurement of its bodies says
correct : (r : Row) → Sound r → Correct r
correct r s m h =
    let same = nearest_unique_lowest (reported m) (r.d ÷ r.w) h.nearest s.nearest h.lowest s.lowest in
    let squares = square_unique_lowest (reported m) (r.d ÷ r.w) (pos m.gap.p) (pos m.gap.q) (pos r.p) (pos r.q) h.nearest s.nearest (positive m.gap.q h.over) s.over h.square s.square h.reduced s.reduced in
    record { d_is = ap (λ (x : Frac). x.point) same; w_is = ap (λ (x : Frac). x.over) same; p_is = ap nat_abs squares.0; q_is = ap nat_abs squares.1 }
  where
    positive : (n : ℕ) → 0 < n → pos 0 <ℤ pos n
    positive n l = omega (arith, ints)

all-correct : (rs : List Row) (cs : List Certificate) → T (tests rs cs) → AllByRecursion Correct rs
all-correct [] cs t = tt
all-correct (r ∷ rs) [] t = absurd t
all-correct (r ∷ rs) (c ∷ cs) t = (correct r (sound r c (both_left (test r c) (tests rs cs) t)), all-correct rs cs (both_right (test r c) (tests rs cs) t))

-- the whole table, by one computed test
pub table-correct : AllByRecursion Correct table
table-correct = all-correct table certificates tt
