-- The part of a simplex that carries its shortest mean: from the best of its faces, and for any independent points.
use Rattle.std.proofs.Common.{◌≡◌, ℕ, zero, suc, ◌<◌, ◌⊎◌, List, [], ◌∷◌, ◌++◌, length, get_or, ℤ, pos, ◌*ℤ◌, ◌≤ℤ◌, ◌<ℤ◌, sym, refl, subst, inl, inr, eq-or-lt_of_le, arith}
use lib.Signed.{≤ℤ_refl}
use Rattle.std.specs.List.{ContainsAt as Has, AllByRecursion}
use Rattle.std.proofs.ByRecursion.{All-weaker, all-has, all_has_itself}
use Rattle.std.proofs.lemmas.Int.{ints, by_lt_z}
use Rattle.integers.specs.Points.{Pt, dot}
use Rattle.integers.proofs.Order.{<ℤ→≤ℤ}
use Rattle.convex.specs.Fractions.{Frac, Shorter, NoLonger}
use Rattle.convex.specs.Means.{Mean}
use Rattle.convex.specs.Hulls.{Shortest, without}
use Rattle.convex.specs.Simplices.{weights, foot, extent, footing, Independent, Carries}
use Rattle.convex.proofs.Combs.{length_without, all_without}
use Rattle.convex.proofs.Fractions.{no_longer_trans}
use Rattle.convex.proofs.Hulls.{foot-shortest}
use Rattle.convex.proofs.Members.{mean-without}
use Rattle.convex.proofs.Simplices.{foot_laws}
use Rattle.convex.proofs.Independent.{independent-without}
use Rattle.convex.proofs.Progress.{progress_push}
use Rattle.convex.proofs.Faces.{faces_shortest}

-- with positive weights the foot is the shortest mean
foot-carried : (S : List Pt) → Independent S → AllByRecursion (λ k. pos 0 <ℤ k) (weights S) → Shortest S (footing S)
foot-carried S i k = foot-shortest (foot_laws S i.some i.few) i.apart (All-weaker _ _ (λ _. <ℤ→≤ℤ) (weights S) k)

-- so the points carry themselves
pub carries_itself : (S : List Pt) → Independent S → AllByRecursion (λ k. pos 0 <ℤ k) (weights S) → Carries S S
carries_itself S i k = record { among = all_has_itself S; independent = i; inside = k; shortest = foot-carried S i k }

-- what carries others is a mean of itself
pub carries-reached : {S ys : List Pt} → Carries S ys → Mean S (footing S)
carries-reached {S} c = (foot-carried S c.independent c.inside).reached

-- the next carrier, with a corner on the near side of the foot, is shorter
pub carries_next : {S T ys : List Pt} (w : Pt) → Carries S ys → (extent S *ℤ dot (foot S) w) <ℤ dot (foot S) (foot S) → Carries T (S ++ w ∷ []) → Shorter (footing T) (footing S)
carries_next {S} {T} w c h t = progress_push S (footing S) (footing T) w (carries-reached c) h t.shortest

-- ---- the best of the faces
-- the carrier S of one face is no longer than any mean of the first n faces, of those across a weight that is not positive
pub record Best (ys : List Pt) (n : ℕ) (S : List Pt) : Type 0 where
  pub i : ℕ
  pub face : Carries S (without i ys)
  pub covers : (k : ℕ) → k < n → get_or (weights ys) k (pos 0) ≤ℤ pos 0 → (y : Frac) → Mean (without k ys) y → NoLonger (footing S) y

module _ (ys : List Pt) (n : ℕ) where
  abbrev Under : List Pt → ℕ → Type 0
  Under S k = get_or (weights ys) k (pos 0) ≤ℤ pos 0 → (y : Frac) → Mean (without k ys) y → NoLonger (footing S) y

  -- what is under the first n faces and the next
  one_more : (S : List Pt) → ((k : ℕ) → k < n → Under S k) → Under S n → (k : ℕ) → k < suc n → Under S k
  one_more S before here k l = which (eq-or-lt_of_le (omega arith))
    where
      which : (k ≡ n) ⊎ (k < n) → Under S k
      which (inl e) = subst (Under S) (sym e) here
      which (inr m) = before k m

  -- the first face that is solved
  pub best-first : (S : List Pt) → ((k : ℕ) → k < n → get_or (weights ys) k (pos 0) ≤ℤ pos 0 → ⊥) → Carries S (without n ys) → Best ys (suc n) S
  best-first S before c = record { i = n; face = c; covers = one_more S (λ k l o. absurd (before k l o)) (λ _. c.shortest.least) }

  -- one more: the best so far, or the carrier of the next face, whichever is shorter; where no face is to be solved, the best so far
  pub best_next : (S T : List Pt) → Best ys n S → (T ≡ S) ⊎ Carries T (without n ys) → NoLonger (footing T) (footing S) → (get_or (weights ys) n (pos 0) ≤ℤ pos 0 → (y : Frac) → Mean (without n ys) y → NoLonger (footing T) y) → Best ys (suc n) T
  best_next S T b from older newer = which from
    where
      under : (k : ℕ) → k < suc n → Under T k
      under = one_more T (λ k l o y m. no_longer_trans (footing T) (footing S) y b.face.independent.apart older (b.covers k l o y m)) newer

      which : (T ≡ S) ⊎ Carries T (without n ys) → Best ys (suc n) T
      which (inl e) = record { i = b.i; face = subst (λ t. Carries t (without b.i ys)) (sym e) b.face; covers = under }
      which (inr c) = record { i = n; face = c; covers = under }

-- all of them: it carries the whole
pub best_done : (ys S : List Pt) → Independent ys → (j : ℕ) → j < length ys → get_or (weights ys) j (pos 0) ≤ℤ pos 0 → Best ys (length ys) S → Carries S ys
best_done ys S i j j< o b =
    let c = b.face in
    record {
      among = All-weaker _ _ (λ x l. all-has (Has ys) (without b.i ys) x (all_without (Has ys) b.i ys (all_has_itself ys)) l) S c.among;
      independent = c.independent;
      inside = c.inside;
      shortest = faces_shortest (foot_laws ys i.some i.few) i.apart j j< o (footing S) (mean-without b.i c.shortest.reached) b.covers;
    }

-- ---- independent points have a carrier
-- all weights are positive, or one is not
positive_or_not : (ks : List ℤ) → AllByRecursion (λ k. pos 0 <ℤ k) ks ⊎ ((j : ℕ) × (j < length ks) × (get_or ks j (pos 0) ≤ℤ pos 0))
positive_or_not [] = inl tt
positive_or_not (k ∷ ks) = by_lt_z (pos 0) k (λ l. more l (positive_or_not ks)) (λ l. inr (zero, omega arith, l))
  where
    more : pos 0 <ℤ k → AllByRecursion (λ k. pos 0 <ℤ k) ks ⊎ ((j : ℕ) × (j < length ks) × (get_or ks j (pos 0) ≤ℤ pos 0)) → AllByRecursion (λ k. pos 0 <ℤ k) (k ∷ ks) ⊎ ((j : ℕ) × (j < suc (length ks)) × (get_or (k ∷ ks) j (pos 0) ≤ℤ pos 0))
    more l (inl h) = inl (l, h)
    more l (inr (j, h, o)) = inr (suc j, omega arith, o)

-- the best of the first n + 1 faces, from a carrier of each
best_of : (ys : List Pt) → ((i : ℕ) → i < length ys → (S : List Pt) × Carries S (without i ys)) → (n : ℕ) → n < length ys → (S : List Pt) × Best ys (suc n) S
best_of ys face zero l = let (S, c) = face zero l in (S, best-first ys zero S (λ k m. absurd (omega arith)) c)
best_of ys face (suc n) l = let (T, c) = face (suc n) l in let (S, b) = best_of ys face n (omega arith) in shorter_of S T b c
  where
    shorter_of : (S T : List Pt) → Best ys (suc n) S → Carries T (without (suc n) ys) → (R : List Pt) × Best ys (suc (suc n)) R
    shorter_of S T b c =
        by_lt_z (dot (foot T) (foot T) *ℤ (extent S *ℤ extent S)) (dot (foot S) (foot S) *ℤ (extent T *ℤ extent T))
        (λ l. (T, best_next ys (suc n) S T b (inr c) (<ℤ→≤ℤ l) (λ _. c.shortest.least)))
        (λ l. (S, best_next ys (suc n) S S b (inl refl) (≤ℤ_refl _) (λ _ y m. no_longer_trans (footing S) (footing T) y c.independent.apart l (c.shortest.least y m))))

carrier_of : (n : ℕ) (ys : List Pt) → length ys ≡ suc n → Independent ys → (S : List Pt) × Carries S ys
carrier_of zero [] e h = absurd (omega arith)
carrier_of zero (a ∷ []) e h = (a ∷ [], carries_itself (a ∷ []) h (omega (arith, ints), tt))
carrier_of zero (a ∷ (b ∷ ys)) e h = absurd (omega arith)
carrier_of (suc n) ys e h = ways (positive_or_not (weights ys)) (λ i l. carrier_of n (without i ys) (omega (arith, length_without i ys l)) (independent-without ys i (omega arith) l h))
  where
    ways : AllByRecursion (λ k. pos 0 <ℤ k) (weights ys) ⊎ ((j : ℕ) × (j < length (weights ys)) × (get_or (weights ys) j (pos 0) ≤ℤ pos 0)) → ((i : ℕ) → i < length ys → (S : List Pt) × Carries S (without i ys)) → (S : List Pt) × Carries S ys
    ways (inl k) face = (ys, carries_itself ys h k)
    ways (inr (j, l, o)) face = let (S, b) = best_of ys face (suc n) (omega arith) in (S, best_done ys S h j (omega (arith, (foot_laws ys h.some h.few).one_each)) o (subst (λ m. Best ys m S) (sym e) b))

-- independent points have a carrier
pub carrier : (ys : List Pt) → Independent ys → (S : List Pt) × Carries S ys
carrier [] h = absurd (omega (arith, h.some))
carrier (y ∷ ys) h = carrier_of (length ys) (y ∷ ys) refl h
