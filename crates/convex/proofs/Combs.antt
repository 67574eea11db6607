-- Sums of weighted points.
use Rattle.std.proofs.Common.{◌≡◌, ℕ, zero, suc, ◌<◌, List, [], ◌∷◌, map, length, get_or, ℤ, pos, negsuc, ◌+ℤ◌, ◌*ℤ◌, nat_abs, ◌≤ℤ◌, ◌<ℤ◌, sym, refl, ap, ◌∙◌, ap₂, arith, lt→ltb}
use Rattle.std.specs.List.{AllByRecursion}
use Rattle.std.proofs.lemmas.Int.{ints}
use Rattle.integers.specs.Points.{Pt, ◌+ᵛ◌, ◌·ᵛ◌, dot, origin}
use Rattle.integers.proofs.Solver.{var, con, ◌⊕◌, ◌⊗◌, solve}
use Rattle.integers.proofs.Vectors.{◌⊕ᵛ◌, ◌⊗ᵛ◌, dot_e, origin_e, pt, pts, solve_v}
use Rattle.integers.proofs.Order.{+ℤ_nonneg, *ℤ_nonneg}
use Rattle.integers.proofs.Certs.{prove≤, prove≡, ◌⊠◌, nn, le, by_eq, num_nonneg}
use Rattle.convex.specs.Means.{sum_of, total, Weights}
use Rattle.convex.specs.Hulls.{comb, totalℤ, without}

-- no weight is negative
abbrev pub Nonneg : List ℤ → Type 0
Nonneg ks = AllByRecursion (λ k. pos 0 ≤ℤ k) ks

-- Σ kᵢ c ≤ E · Σ kᵢ yᵢ, where c ≤ E · yᵢ for each i and no weight is negative
pub dot_comb≥ : (E : Pt) (c : ℤ) (ks : List ℤ) (ys : List Pt) → length ks ≡ length ys → Nonneg ks → AllByRecursion (λ y. c ≤ℤ dot E y) ys → (totalℤ ks *ℤ c) ≤ℤ dot E (comb ks ys)
dot_comb≥ E c [] ys e n h = prove≤ (pts (E ∷ []) (c ∷ [])) (con (pos 0) ⊗ var 3) (dot_e (pt 0) origin_e) [] refl
dot_comb≥ E c (k ∷ ks) [] e n h = absurd (omega arith)
dot_comb≥ E c (k ∷ ks) (y ∷ ys) e n h =
    let F = pt 0 in let Y = pt 1 in let X = pt 2 in let K = var 9 in let T = var 10 in let C = var 11 in
    prove≤ (pts (E ∷ y ∷ comb ks ys ∷ []) (k ∷ totalℤ ks ∷ c ∷ [])) ((K ⊕ T) ⊗ C) (dot_e F (K ⊗ᵛ Y ⊕ᵛ X))
    (nn K n.0 ⊠ le C (dot_e F Y) h.0 ∷ le (T ⊗ C) (dot_e F X) (dot_comb≥ E c ks ys (omega arith) n.1 h.1) ∷ []) refl

-- E · Σ kᵢ yᵢ = Σ kᵢ c, where E · yᵢ = c for each i
pub dot-comb : (E : Pt) (c : ℤ) (ks : List ℤ) (ys : List Pt) → length ks ≡ length ys → AllByRecursion (λ y. dot E y ≡ c) ys → dot E (comb ks ys) ≡ totalℤ ks *ℤ c
dot-comb E c [] ys e h = prove≡ (pts (E ∷ []) (c ∷ [])) (dot_e (pt 0) origin_e) (con (pos 0) ⊗ var 3) [] refl
dot-comb E c (k ∷ ks) [] e h = absurd (omega arith)
dot-comb E c (k ∷ ks) (y ∷ ys) e h =
    let F = pt 0 in let Y = pt 1 in let X = pt 2 in let K = var 9 in let T = var 10 in let C = var 11 in
    prove≡ (pts (E ∷ y ∷ comb ks ys ∷ []) (k ∷ totalℤ ks ∷ c ∷ [])) (dot_e F (K ⊗ᵛ Y ⊕ᵛ X)) ((K ⊕ T) ⊗ C)
    (by_eq K (dot_e F Y) C h.0 ∷ by_eq (con (pos 1)) (dot_e F X) (T ⊗ C) (dot-comb E c ks ys (omega arith) h.1) ∷ []) refl

-- ---- two weights for each point, p times the one and q times the other
abbrev pub mix : ℤ → ℤ → List ℤ → List ℤ → List ℤ
mix p q [] js = []
mix p q (k ∷ ks) [] = []
mix p q (k ∷ ks) (j ∷ js) = (p *ℤ k +ℤ q *ℤ j) ∷ mix p q ks js

pub length_mix : (p q : ℤ) (ks js : List ℤ) → length ks ≡ length js → length (mix p q ks js) ≡ length ks
length_mix p q [] js e = refl
length_mix p q (k ∷ ks) [] e = absurd (omega arith)
length_mix p q (k ∷ ks) (j ∷ js) e = ap suc (length_mix p q ks js (omega arith))

pub comb_mix : (p q : ℤ) (ks js : List ℤ) (ys : List Pt) → length ks ≡ length js → comb (mix p q ks js) ys ≡ p ·ᵛ comb ks ys +ᵛ q ·ᵛ comb js ys
comb_mix p q [] [] ys e = solve_v (p ∷ q ∷ []) origin_e (var 0 ⊗ᵛ origin_e ⊕ᵛ var 1 ⊗ᵛ origin_e) refl refl refl
comb_mix p q [] (j ∷ js) ys e = absurd (omega arith)
comb_mix p q (k ∷ ks) [] ys e = absurd (omega arith)
comb_mix p q (k ∷ ks) (j ∷ js) [] e = solve_v (p ∷ q ∷ []) origin_e (var 0 ⊗ᵛ origin_e ⊕ᵛ var 1 ⊗ᵛ origin_e) refl refl refl
comb_mix p q (k ∷ ks) (j ∷ js) (y ∷ ys) e =
    let Y = pt 0 in let X = pt 1 in let Z = pt 2 in let P = var 9 in let Q = var 10 in let K = var 11 in let J = var 12 in
    ap (λ t. (p *ℤ k +ℤ q *ℤ j) ·ᵛ y +ᵛ t) (comb_mix p q ks js ys (omega arith)) ∙
    solve_v (pts (y ∷ comb ks ys ∷ comb js ys ∷ []) (p ∷ q ∷ k ∷ j ∷ [])) ((P ⊗ K ⊕ Q ⊗ J) ⊗ᵛ Y ⊕ᵛ (P ⊗ᵛ X ⊕ᵛ Q ⊗ᵛ Z)) (P ⊗ᵛ (K ⊗ᵛ Y ⊕ᵛ X) ⊕ᵛ Q ⊗ᵛ (J ⊗ᵛ Y ⊕ᵛ Z)) refl refl refl

pub total_mix : (p q : ℤ) (ks js : List ℤ) → length ks ≡ length js → totalℤ (mix p q ks js) ≡ p *ℤ totalℤ ks +ℤ q *ℤ totalℤ js
total_mix p q [] [] e = solve (p ∷ q ∷ []) (con (pos 0)) (var 0 ⊗ con (pos 0) ⊕ var 1 ⊗ con (pos 0)) refl
total_mix p q [] (j ∷ js) e = absurd (omega arith)
total_mix p q (k ∷ ks) [] e = absurd (omega arith)
total_mix p q (k ∷ ks) (j ∷ js) e =
    let P = var 0 in let Q = var 1 in let K = var 2 in let J = var 3 in let S = var 4 in let T = var 5 in
    ap (λ t. p *ℤ k +ℤ q *ℤ j +ℤ t) (total_mix p q ks js (omega arith)) ∙
    solve (p ∷ q ∷ k ∷ j ∷ totalℤ ks ∷ totalℤ js ∷ []) (P ⊗ K ⊕ Q ⊗ J ⊕ (P ⊗ S ⊕ Q ⊗ T)) (P ⊗ (K ⊕ S) ⊕ Q ⊗ (J ⊕ T)) refl

pub nonneg_mix : (p q : ℤ) (ks js : List ℤ) → pos 0 ≤ℤ p → pos 0 ≤ℤ q → Nonneg ks → Nonneg js → Nonneg (mix p q ks js)
nonneg_mix p q [] js hp hq n o = tt
nonneg_mix p q (k ∷ ks) [] hp hq n o = tt
nonneg_mix p q (k ∷ ks) (j ∷ js) hp hq n o = (+ℤ_nonneg (*ℤ_nonneg hp n.0) (*ℤ_nonneg hq o.0), nonneg_mix p q ks js hp hq n.1 o.1)

pub get_or-mix : (p q : ℤ) (ks js : List ℤ) (i : ℕ) → length ks ≡ length js → get_or (mix p q ks js) i (pos 0) ≡ p *ℤ get_or ks i (pos 0) +ℤ q *ℤ get_or js i (pos 0)
get_or-mix p q [] [] i e = solve (p ∷ q ∷ []) (con (pos 0)) (var 0 ⊗ con (pos 0) ⊕ var 1 ⊗ con (pos 0)) refl
get_or-mix p q [] (j ∷ js) i e = absurd (omega arith)
get_or-mix p q (k ∷ ks) [] i e = absurd (omega arith)
get_or-mix p q (k ∷ ks) (j ∷ js) zero e = refl
get_or-mix p q (k ∷ ks) (j ∷ js) (suc i) e = get_or-mix p q ks js i (omega arith)

-- ---- a point with no weight
pub length_without : {X : Type 0} (i : ℕ) (xs : List X) → i < length xs → suc (length (without i xs)) ≡ length xs
length_without i [] h = absurd (omega arith)
length_without zero (x ∷ xs) h = refl
length_without (suc i) (x ∷ xs) h = ap suc (length_without i xs (omega arith))

pub comb-without : (i : ℕ) (ks : List ℤ) (ys : List Pt) → get_or ks i (pos 0) ≡ pos 0 → comb (without i ks) (without i ys) ≡ comb ks ys
comb-without i [] ys z = refl
comb-without zero (k ∷ ks) [] z = nowhere ks
  where
    nowhere : (ks : List ℤ) → comb ks [] ≡ origin
    nowhere [] = refl
    nowhere (k ∷ ks) = refl
comb-without (suc i) (k ∷ ks) [] z = refl
comb-without zero (k ∷ ks) (y ∷ ys) z =
    solve_v (pts (y ∷ comb ks ys ∷ []) []) (pt 1) (con (pos 0) ⊗ᵛ pt 0 ⊕ᵛ pt 1) refl refl refl ∙ ap (λ t. t ·ᵛ y +ᵛ comb ks ys) (sym z)
comb-without (suc i) (k ∷ ks) (y ∷ ys) z = ap (λ t. k ·ᵛ y +ᵛ t) (comb-without i ks ys z)

pub total-without : (i : ℕ) (ks : List ℤ) → get_or ks i (pos 0) ≡ pos 0 → totalℤ (without i ks) ≡ totalℤ ks
total-without i [] z = refl
total-without zero (k ∷ ks) z = omega (arith, ints)
total-without (suc i) (k ∷ ks) z = ap (λ t. k +ℤ t) (total-without i ks z)

pub all_without : {X : Type 0} (P : X → Type 0) (i : ℕ) (xs : List X) → AllByRecursion P xs → AllByRecursion P (without i xs)
all_without P i [] n = tt
all_without P zero (x ∷ xs) n = n.1
all_without P (suc i) (x ∷ xs) n = (n.0, all_without P i xs n.1)

-- ---- k more at the place i
abbrev pub bump : ℕ → ℤ → List ℤ → List ℤ
bump i k [] = []
bump zero k (j ∷ js) = (k +ℤ j) ∷ js
bump (suc i) k (j ∷ js) = j ∷ bump i k js

pub length_bump : (i : ℕ) (k : ℤ) (js : List ℤ) → length (bump i k js) ≡ length js
length_bump i k [] = refl
length_bump zero k (j ∷ js) = refl
length_bump (suc i) k (j ∷ js) = ap suc (length_bump i k js)

pub nonneg_bump : (i : ℕ) (k : ℤ) (js : List ℤ) → pos 0 ≤ℤ k → Nonneg js → Nonneg (bump i k js)
nonneg_bump i k [] h n = tt
nonneg_bump zero k (j ∷ js) h n = (+ℤ_nonneg h n.0, n.1)
nonneg_bump (suc i) k (j ∷ js) h n = (n.0, nonneg_bump i k js h n.1)

pub total_bump : (i : ℕ) (k : ℤ) (js : List ℤ) → i < length js → totalℤ (bump i k js) ≡ k +ℤ totalℤ js
total_bump i k [] h = absurd (omega arith)
total_bump zero k (j ∷ js) h = omega (arith, ints)
total_bump (suc i) k (j ∷ js) h = omega (arith, ints, total_bump i k js (omega arith))

pub comb_bump : (i : ℕ) (k : ℤ) (js : List ℤ) (ys : List Pt) → i < length ys → length js ≡ length ys → comb (bump i k js) ys ≡ k ·ᵛ get_or ys i origin +ᵛ comb js ys
comb_bump i k [] ys h e = absurd (omega arith)
comb_bump i k (j ∷ js) [] h e = absurd (omega arith)
comb_bump zero k (j ∷ js) (y ∷ ys) h e =
    let K = var 6 in let J = var 7 in
    solve_v (pts (y ∷ comb js ys ∷ []) (k ∷ j ∷ [])) ((K ⊕ J) ⊗ᵛ pt 0 ⊕ᵛ pt 1) (K ⊗ᵛ pt 0 ⊕ᵛ (J ⊗ᵛ pt 0 ⊕ᵛ pt 1)) refl refl refl
comb_bump (suc i) k (j ∷ js) (y ∷ ys) h e =
    let K = var 9 in let J = var 10 in
    ap (λ t. j ·ᵛ y +ᵛ t) (comb_bump i k js ys (omega arith) (omega arith)) ∙
    solve_v (pts (y ∷ get_or ys i origin ∷ comb js ys ∷ []) (k ∷ j ∷ [])) (J ⊗ᵛ pt 0 ⊕ᵛ (K ⊗ᵛ pt 1 ⊕ᵛ pt 2)) (K ⊗ᵛ pt 1 ⊕ᵛ (J ⊗ᵛ pt 0 ⊕ᵛ pt 2)) refl refl refl

-- ---- no weight at all
abbrev pub zeros : List Pt → List ℤ
zeros [] = []
zeros (y ∷ ys) = pos 0 ∷ zeros ys

pub length_zeros : (ys : List Pt) → length (zeros ys) ≡ length ys
length_zeros [] = refl
length_zeros (y ∷ ys) = ap suc (length_zeros ys)

pub nonneg_zeros : (ys : List Pt) → Nonneg (zeros ys)
nonneg_zeros [] = tt
nonneg_zeros (y ∷ ys) = (num_nonneg 0, nonneg_zeros ys)

pub total_zeros : (ys : List Pt) → totalℤ (zeros ys) ≡ pos 0
total_zeros [] = refl
total_zeros (y ∷ ys) = ap (λ t. pos 0 +ℤ t) (total_zeros ys)

pub comb_zeros : (ys : List Pt) → comb (zeros ys) ys ≡ origin
comb_zeros [] = refl
comb_zeros (y ∷ ys) = ap (λ t. pos 0 ·ᵛ y +ᵛ t) (comb_zeros ys) ∙ solve_v (pts (y ∷ []) []) (con (pos 0) ⊗ᵛ pt 0 ⊕ᵛ origin_e) origin_e refl refl refl

-- ---- natural weights, as integers
pub naturals_nonneg : (u : List ℕ) → Nonneg (map pos u)
naturals_nonneg [] = tt
naturals_nonneg (k ∷ u) = (num_nonneg k, naturals_nonneg u)

pub total_naturals : (u : List ℕ) → totalℤ (map pos u) ≡ pos (total u)
total_naturals [] = refl
total_naturals (k ∷ u) = ap (λ t. pos k +ℤ t) (total_naturals u)

pub comb_naturals : (u : List ℕ) (ys : List Pt) → comb (map pos u) ys ≡ sum_of u ys
comb_naturals [] ys = refl
comb_naturals (k ∷ u) [] = refl
comb_naturals (k ∷ u) (y ∷ ys) = ap (λ t. pos k ·ᵛ y +ᵛ t) (comb_naturals u ys)

pub length_naturals : (u : List ℕ) → length (map pos u) ≡ length u
length_naturals [] = refl
length_naturals (k ∷ u) = ap suc (length_naturals u)

-- an integer that is not negative is a natural
pub natural : (z : ℤ) → pos 0 ≤ℤ z → z ≡ pos (nat_abs z)
natural (pos n) h = refl
natural (negsuc n) h = absurd h.le

pub as_naturals : (ks : List ℤ) → Nonneg ks → map pos (map nat_abs ks) ≡ ks
as_naturals [] n = refl
as_naturals (k ∷ ks) n = ap₂ ◌∷◌ (sym (natural k n.0)) (as_naturals ks n.1)

-- the total of the weights of a mean is positive
pub some_weight : {ys : List Pt} (w : Weights ys) → pos 0 <ℤ pos (total w.each)
some_weight w = record { lt = lt→ltb _ _ w.some }
