-- From a mean towards the foot, as far as the first face: a mean of the face that is no longer.
use Rattle.std.proofs.Common.{◌≡◌, ℕ, zero, suc, ◌<◌, ◌⊎◌, List, [], ◌∷◌, length, get_or, ℤ, pos, ◌+ℤ◌, ◌*ℤ◌, neg_ℤ, ◌≤ℤ◌, ◌<ℤ◌, sym, refl, ◌∙◌, subst, inl, inr, arith}
use Rattle.std.proofs.ByRecursion.{All-get_or}
use Rattle.std.proofs.lemmas.Int.{ints, by_lt_z}
use Rattle.integers.specs.Points.{Pt, dot}
use Rattle.integers.proofs.Solver.{var, con, neg, ◌⊕◌, ◌⊗◌, solve}
use Rattle.integers.proofs.Vectors.{◌⊕ᵛ◌, ◌⊗ᵛ◌, dot_e, pt, pts}
use Rattle.integers.proofs.Order.{<ℤ→≤ℤ, ≤ℤ_antisym, +ℤ_nonneg, *ℤ_nonneg, *ℤ_pos, *ℤ_cancel≤}
use Rattle.integers.proofs.Certs.{prove≤, ◌⊠◌, num, nn, sq, le, eq}
use Rattle.convex.specs.Fractions.{Frac, NoLonger}
use Rattle.convex.specs.Hulls.{totalℤ}
use Rattle.convex.specs.Simplices.{Foot}
use Rattle.convex.proofs.Progress.{mixed}
use Rattle.convex.proofs.Combs.{Nonneg, mix, length_mix, comb_mix, total_mix, nonneg_mix, get_or-mix}
use Rattle.convex.proofs.Hulls.{weighed, level-weighed, affine_least}

-- ---- the first face that is met
-- a place i of a negative weight at which the least a / −m is taken
record Pivot (ks ms : List ℤ) : Type 0 where
  i : ℕ
  inside : i < length ms
  below : get_or ms i (pos 0) <ℤ pos 0
  fits : Nonneg (mix (neg_ℤ (get_or ms i (pos 0))) (get_or ks i (pos 0)) ks ms)

neg≥ : {k : ℤ} → k <ℤ pos 0 → pos 0 ≤ℤ neg_ℤ k
neg≥ h = omega (arith, ints)

-- a / −k < q / p ≤ x / −j, or j ≥ 0
lesser : (p q a k x j : ℤ) → pos 0 <ℤ p → k <ℤ pos 0 → pos 0 ≤ℤ a → (p *ℤ a +ℤ q *ℤ k) <ℤ pos 0 → pos 0 ≤ℤ x → pos 0 ≤ℤ (p *ℤ x +ℤ q *ℤ j) → pos 0 ≤ℤ (neg_ℤ k *ℤ x +ℤ a *ℤ j)
lesser p q a k x j hp hk ha h hx hj =
    let P = var 0 in let Q = var 1 in let A = var 2 in let K = var 3 in let X = var 4 in let J = var 5 in let O = con (pos 0) in
    by_lt_z j (pos 0)
    (λ l. *ℤ_cancel≤ p hp (prove≤ (p ∷ q ∷ a ∷ k ∷ x ∷ j ∷ []) (P ⊗ O) (P ⊗ (neg K ⊗ X ⊕ A ⊗ J))
    (le K O (<ℤ→≤ℤ hk) ⊠ nn (P ⊗ X ⊕ Q ⊗ J) hj ∷ le J O (<ℤ→≤ℤ l) ⊠ le (P ⊗ A ⊕ Q ⊗ K) O (<ℤ→≤ℤ h) ∷ []) refl))
    (λ l. +ℤ_nonneg (*ℤ_nonneg (neg≥ hk) hx) (*ℤ_nonneg ha l))

-- so q / p can be replaced by a / −k as the least
all-lesser : (p q a k : ℤ) → pos 0 <ℤ p → k <ℤ pos 0 → pos 0 ≤ℤ a → (p *ℤ a +ℤ q *ℤ k) <ℤ pos 0 → (ks ms : List ℤ) → Nonneg ks → Nonneg (mix p q ks ms) → Nonneg (mix (neg_ℤ k) a ks ms)
all-lesser p q a k hp hk ha h [] ms n f = tt
all-lesser p q a k hp hk ha h (x ∷ ks) [] n f = tt
all-lesser p q a k hp hk ha h (x ∷ ks) (j ∷ ms) n f = (lesser p q a k x j hp hk ha h n.0 f.0, all-lesser p q a k hp hk ha h ks ms n.1 f.1)

-- no weight is negative, or there is a first face
pivot : (ks ms : List ℤ) → length ks ≡ length ms → Nonneg ks → Nonneg ms ⊎ Pivot ks ms
pivot [] [] e n = inl tt
pivot [] (k ∷ ms) e n = absurd (omega arith)
pivot (a ∷ ks) [] e n = absurd (omega arith)
pivot (a ∷ ks) (k ∷ ms) e n = by_lt_z k (pos 0) (λ l. low l (pivot ks ms (omega arith) n.1)) (λ l. high l (pivot ks ms (omega arith) n.1))
  where
    later : (v : Pivot ks ms) → pos 0 ≤ℤ (neg_ℤ (get_or ms v.i (pos 0)) *ℤ a +ℤ get_or ks v.i (pos 0) *ℤ k) → Pivot (a ∷ ks) (k ∷ ms)
    later v h = record { i = suc v.i; inside = omega (arith, v.inside); below = v.below; fits = (h, v.fits) }

    here : k <ℤ pos 0 → Nonneg (mix (neg_ℤ k) a ks ms) → Pivot (a ∷ ks) (k ∷ ms)
    here l f = record { i = zero; inside = omega arith; below = l; fits = (prove≤ (a ∷ k ∷ []) (con (pos 0)) (neg (var 1) ⊗ var 0 ⊕ var 0 ⊗ var 1) [] refl, f) }

    low : k <ℤ pos 0 → Nonneg ms ⊎ Pivot ks ms → Nonneg (k ∷ ms) ⊎ Pivot (a ∷ ks) (k ∷ ms)
    low l (inl o) = inr (here l (nonneg_mix (neg_ℤ k) a ks ms (neg≥ l) n.0 n.1 o))
    low l (inr v) =
        let p = neg_ℤ (get_or ms v.i (pos 0)) in let q = get_or ks v.i (pos 0) in
        inr (by_lt_z (p *ℤ a +ℤ q *ℤ k) (pos 0) (λ s. here l (all-lesser p q a k (omega (arith, ints, v.below)) l n.0 s ks ms n.1 v.fits)) (later v))

    high : pos 0 ≤ℤ k → Nonneg ms ⊎ Pivot ks ms → Nonneg (k ∷ ms) ⊎ Pivot (a ∷ ks) (k ∷ ms)
    high l (inl o) = inl (l, o)
    high l (inr v) = inr (later v (+ℤ_nonneg (*ℤ_nonneg (neg≥ v.below) n.0) (*ℤ_nonneg (All-get_or _ ks v.i (pos 0) (omega (arith, e, v.inside)) n.1) l)))

-- ---- the point that is met
-- between y and the foot x nothing is longer than y
between : (x y : Frac) (p q : ℤ) → pos 0 <ℤ x.over → pos 0 ≤ℤ y.over → pos 0 ≤ℤ p → pos 0 ≤ℤ q → x.over *ℤ dot x.point y.point ≡ y.over *ℤ dot x.point x.point → NoLonger x y → NoLonger (mixed p q y x) y
between x y p q hx hy hp hq e h =
    let Y = pt 0 in let X = pt 1 in let a = var 6 in let w = var 7 in let P = var 8 in let Q = var 9 in let z = P ⊗ᵛ Y ⊕ᵛ Q ⊗ᵛ X in let s = P ⊗ a ⊕ Q ⊗ w in
    let ρ = pts (y.point ∷ x.point ∷ []) (y.over ∷ x.over ∷ p ∷ q ∷ []) in
    let k : (y.over *ℤ dot x.point y.point) ≤ℤ (x.over *ℤ dot y.point y.point) = *ℤ_cancel≤ x.over hx (prove≤ ρ (w ⊗ (a ⊗ dot_e X Y)) (w ⊗ (w ⊗ dot_e Y Y)) (le (dot_e X X ⊗ (a ⊗ a)) (dot_e Y Y ⊗ (w ⊗ w)) h ∷ eq (neg a) (w ⊗ dot_e X Y) (a ⊗ dot_e X X) e ∷ []) refl) in
    prove≤ ρ (dot_e z z ⊗ (a ⊗ a)) (dot_e Y Y ⊗ (s ⊗ s))
    (sq Q ⊠ le (dot_e X X ⊗ (a ⊗ a)) (dot_e Y Y ⊗ (w ⊗ w)) h ∷ num 2 ⊠ nn P hp ⊠ nn Q hq ⊠ nn a hy ⊠ le (a ⊗ dot_e X Y) (w ⊗ dot_e Y Y) k ∷ []) refl

-- weights that leave out a place where m is not positive, for a point that is no longer than that of ks
pub record Descent (ys : List Pt) (m ks : List ℤ) : Type 0 where
  pub i : ℕ
  pub inside : i < length ys
  pub leaves : get_or m i (pos 0) ≤ℤ pos 0
  pub to : List ℤ
  pub one_each : length to ≡ length ys
  pub nonneg : Nonneg to
  pub some : pos 0 <ℤ totalℤ to
  pub none : get_or to i (pos 0) ≡ pos 0
  pub no_longer : NoLonger (weighed to ys) (weighed ks ys)

-- where some weight of the foot is not positive, each point with weights that are not negative descends to a face
pub descent : {ys : List Pt} {m : List ℤ} {x : Frac} → Foot ys m x → pos 0 <ℤ x.over → (j : ℕ) → j < length ys → get_or m j (pos 0) ≤ℤ pos 0 → (ks : List ℤ) → length ks ≡ length ys → Nonneg ks → pos 0 <ℤ totalℤ ks → Descent ys m ks
descent {ys} {m} {x} f hx j j< hj ks l n hA = ways (pivot ks m (l ∙ sym f.one_each) n)
  where
    whole : pos 0 <ℤ totalℤ m
    whole = subst (λ z. pos 0 <ℤ z) f.whole hx

    ways : Nonneg m ⊎ Pivot ks m → Descent ys m ks
    ways (inl o) = record {
      i = j;
      inside = j<;
      leaves = hj;
      to = m;
      one_each = f.one_each;
      nonneg = o;
      some = whole;
      none = ≤ℤ_antisym hj (All-get_or _ m j (pos 0) (omega (arith, f.one_each)) o);
      no_longer = rw (← f.sum, ← f.whole) (affine_least f ks l);
    }
    ways (inr v) =
        let p = neg_ℤ (get_or m v.i (pos 0)) in let q = get_or ks v.i (pos 0) in
        let lm : length ks ≡ length m = l ∙ sym f.one_each in
        let hp : pos 0 <ℤ p = omega (arith, ints, v.below) in
        let hq : pos 0 ≤ℤ q = All-get_or _ ks v.i (pos 0) (omega (arith, lm, v.inside)) n in
        record {
          i = v.i;
          inside = omega (arith, f.one_each, v.inside);
          leaves = <ℤ→≤ℤ v.below;
          to = mix p q ks m;
          one_each = length_mix p q ks m lm ∙ l;
          nonneg = v.fits;
          some = rw (total_mix p q ks m lm) (more (*ℤ_pos hp hA) (*ℤ_nonneg hq (<ℤ→≤ℤ whole)));
          none = get_or-mix p q ks m v.i lm ∙ solve (get_or m v.i (pos 0) ∷ q ∷ []) (neg (var 0) ⊗ var 1 ⊕ var 1 ⊗ var 0) (con (pos 0)) refl;
          no_longer = rw (total_mix p q ks m lm, comb_mix p q ks m ys lm, ← f.sum, ← f.whole) (between x (weighed ks ys) p q hx (<ℤ→≤ℤ hA) (<ℤ→≤ℤ hp) hq (level-weighed f ks l) (affine_least f ks l));
        }
      where
        more : {a b : ℤ} → pos 0 <ℤ a → pos 0 ≤ℤ b → pos 0 <ℤ (a +ℤ b)
        more h k = omega (arith, ints)
