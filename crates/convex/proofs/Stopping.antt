-- The stopping law: a difference is the nearest exactly where no difference of corners lies on its near side.
use Rattle.std.proofs.Common.{◌≡◌, ◌⊎◌, List, [], ◌∷◌, map, ℤ, pos, ◌+ℤ◌, ◌-ℤ◌, ◌*ℤ◌, neg_ℤ, ◌≤ℤ◌, ◌<ℤ◌, sym, refl, ◌∙◌, subst, inl, inr, arith}
use Rattle.std.specs.List.{ContainsAt as Has, AllByRecursion}
use Rattle.std.proofs.ByRecursion.{All-weaker, all_has_itself}
use Rattle.std.proofs.lemmas.Int.{ints, by_lt_z}
use Rattle.integers.specs.Points.{Pt, ◌-ᵛ◌, ◌·ᵛ◌, dot, origin}
use Rattle.integers.proofs.Solver.{var, neg, con, ◌⊕◌, ◌⊗◌, ◌⊖◌}
use Rattle.integers.proofs.Vectors.{◌⊕ᵛ◌, ◌⊖ᵛ◌, ◌⊗ᵛ◌, dot_e, origin_e, pt, pts}
use Rattle.integers.proofs.VectorCerts.{by_eq_v, prove_v}
use Rattle.integers.proofs.Order.{<ℤ→≤ℤ, +ℤ_pos, *ℤ_nonneg, *ℤ_pos}
use Rattle.integers.proofs.Certs.{prove≤, ◌⊠◌, nn, le}
use Rattle.convex.specs.Fractions.{Frac, ◌÷◌, Same, Shorter, ◌less◌}
use Rattle.convex.specs.Means.{sum_of, total, Weights, mean_of, Mean, Difference, Nearest, StoppingTest}
use Rattle.convex.specs.Hulls.{Between, Farthest}
use Rattle.convex.proofs.Combs.{dot_comb≥, naturals_nonneg, total_naturals, comb_naturals, length_naturals, some_weight}
use Rattle.convex.proofs.Members.{difference_of_corners, difference_of_means, mean_corner}
use Rattle.convex.proofs.Fractions.{same_no_longer, no_longer, same_trans, shorter_trans, not_shorter, beyond_same, same_or_shorter}
use Rattle.convex.proofs.Progress.{mixed, mean-between, Nearer, nearer}

-- ---- the test is enough
-- a bound of each corner is one of the mean
mean≥ : {ys : List Pt} (w : Weights ys) (E : Pt) (c : ℤ) → AllByRecursion (λ y. c ≤ℤ dot E y) ys → (pos (total w.each) *ℤ c) ≤ℤ dot E (sum_of w.each ys)
mean≥ {ys} w E c h = rw (← total_naturals w.each, ← comb_naturals w.each ys) (dot_comb≥ E c (map pos w.each) ys (length_naturals w.each ∙ w.one_each) (naturals_nonneg w.each) h)

module _ (A B : List Pt) (D : Pt) (W : ℤ) (h : StoppingTest A B (D ÷ W)) where
  -- the bound of the differences of corners is one of the differences of means
  means≥ : (u : Weights A) (v : Weights B) → let s = pos (total u.each) in let t = pos (total v.each) in (s *ℤ t *ℤ dot D D) ≤ℤ (W *ℤ dot D (t ·ᵛ sum_of u.each A -ᵛ s ·ᵛ sum_of v.each B))
  means≥ u v =
      let s = pos (total u.each) in let t = pos (total v.each) in let X = sum_of u.each A in let Y = sum_of v.each B in
      let D' = pt 0 in let w = var 9 in let s' = var 10 in let t' = var 11 in let dd = dot_e D' D' in
      prove≤ (pts (D ∷ X ∷ Y ∷ []) (W ∷ s ∷ t ∷ [])) (s' ⊗ t' ⊗ dd) (w ⊗ dot_e D' (t' ⊗ᵛ pt 1 ⊖ᵛ s' ⊗ᵛ pt 2))
      (le (s' ⊗ (t' ⊗ dd ⊕ w ⊗ dot_e D' (pt 2))) (dot_e ((t' ⊗ w) ⊗ᵛ D') (pt 1)) (mean≥ u ((t *ℤ W) ·ᵛ D) (t *ℤ dot D D +ℤ W *ℤ dot D Y) (All-weaker _ _ at_corner A h)) ∷ []) refl
    where
      corners : (a b : Pt) → dot D D ≤ℤ (W *ℤ dot D (a -ᵛ b)) → (dot D D -ℤ W *ℤ dot D a) ≤ℤ dot (neg_ℤ W ·ᵛ D) b
      corners a b k =
          let D' = pt 0 in let w = var 9 in let dd = dot_e D' D' in
          prove≤ (pts (D ∷ a ∷ b ∷ []) (W ∷ [])) (dd ⊖ w ⊗ dot_e D' (pt 1)) (dot_e (neg w ⊗ᵛ D') (pt 2)) (le dd (w ⊗ dot_e D' (pt 1 ⊖ᵛ pt 2)) k ∷ []) refl

      at_corner : (a : Pt) → AllByRecursion (λ b. dot D D ≤ℤ (W *ℤ dot D (a -ᵛ b))) B → (pos (total v.each) *ℤ dot D D +ℤ W *ℤ dot D (sum_of v.each B)) ≤ℤ dot ((pos (total v.each) *ℤ W) ·ᵛ D) a
      at_corner a k =
          let D' = pt 0 in let w = var 9 in let t' = var 10 in let dd = dot_e D' D' in
          prove≤ (pts (D ∷ a ∷ sum_of v.each B ∷ []) (W ∷ pos (total v.each) ∷ [])) (t' ⊗ dd ⊕ w ⊗ dot_e D' (pt 2)) (dot_e ((t' ⊗ w) ⊗ᵛ D') (pt 1))
          (le (t' ⊗ (dd ⊖ w ⊗ dot_e D' (pt 1))) (dot_e (neg w ⊗ᵛ D') (pt 2)) (mean≥ v (neg_ℤ W ·ᵛ D) (dot D D -ℤ W *ℤ dot D a) (All-weaker _ _ (corners a) B k)) ∷ []) refl

-- the stopping law
pub nearest_stops : (A B : List Pt) (x : Frac) → StoppingTest A B x → Difference A B x → Nearest A B x
nearest_stops A B x h r = record {
  reached = r;
  least = λ y m. same_or_shorter x y (<ℤ→≤ℤ m.positive) (beyond_same x y _ m.positive (*ℤ_pos (some_weight m.left) (some_weight m.right)) m.value (means≥ A B x.point x.over h m.left m.right));
}

-- ---- by the corners that lie farthest on the near side
-- farthest against D is least along D
pub least_of_farthest : (ps : List Pt) (D p : Pt) → Farthest ps (origin -ᵛ D) p → AllByRecursion (λ x. dot D p ≤ℤ dot D x) ps
least_of_farthest ps D p h = All-weaker _ _ back ps h.most
  where
    back : (x : Pt) → dot (origin -ᵛ D) x ≤ℤ dot (origin -ᵛ D) p → dot D p ≤ℤ dot D x
    back x l = let E = origin_e ⊖ᵛ pt 0 in prove≤ (pts (D ∷ p ∷ x ∷ []) []) (dot_e (pt 0) (pt 1)) (dot_e (pt 0) (pt 2)) (le (dot_e E (pt 2)) (dot_e E (pt 1)) l ∷ []) refl

-- where they pass the test, all corners do
pub supports : (A B : List Pt) (x : Frac) (a b : Pt) → pos 0 ≤ℤ x.over → Farthest A (origin -ᵛ x.point) a → Farthest B x.point b → dot x.point x.point ≤ℤ (x.over *ℤ dot x.point (a -ᵛ b)) → StoppingTest A B x
supports A B x a b h l r k = All-weaker _ _ (λ p i. All-weaker _ _ (λ q j. each p q i j) B r.most) A (least_of_farthest A x.point a l)
  where
    each : (p q : Pt) → dot x.point a ≤ℤ dot x.point p → dot x.point q ≤ℤ dot x.point b → dot x.point x.point ≤ℤ (x.over *ℤ dot x.point (p -ᵛ q))
    each p q i j =
        let X = pt 0 in let w = var 15 in
        prove≤ (pts (x.point ∷ a ∷ b ∷ p ∷ q ∷ []) (x.over ∷ [])) (dot_e X X) (w ⊗ dot_e X (pt 3 ⊖ᵛ pt 4))
        (le (dot_e X X) (w ⊗ dot_e X (pt 1 ⊖ᵛ pt 2)) k ∷ nn w h ⊠ le (dot_e X (pt 1)) (dot_e X (pt 3)) i ∷ nn w h ⊠ le (dot_e X (pt 4)) (dot_e X (pt 2)) j ∷ []) refl

-- a mean of differences of corners for which they pass is the nearest difference
pub nearest_by_supports : (A B : List Pt) {ys : List Pt} (x : Frac) (a b : Pt) → AllByRecursion (Between A B) ys → Mean ys x → Farthest A (origin -ᵛ x.point) a → Farthest B x.point b → dot x.point x.point ≤ℤ (x.over *ℤ dot x.point (a -ᵛ b)) → Nearest A B x
nearest_by_supports A B x a b h m l r k = nearest_stops A B x (supports A B x a b (<ℤ→≤ℤ m.positive) l r k) (difference_of_corners A B h m)

-- where the bodies meet, all corners pass
pub stopping_at_origin : (A B : List Pt) (x : Frac) → x.point ≡ origin → StoppingTest A B x
stopping_at_origin A B x e = All-weaker (Has A) _ (λ a _. All-weaker (Has B) _ (λ b _. flat (a -ᵛ b)) B (all_has_itself B)) A (all_has_itself A)
  where
    flat : (w : Pt) → dot x.point x.point ≤ℤ (x.over *ℤ dot x.point w)
    flat w = subst (λ D. dot D D ≤ℤ (x.over *ℤ dot D w)) (sym e) (prove≤ (pts (w ∷ []) (x.over ∷ [])) (dot_e origin_e origin_e) (var 3 ⊗ dot_e origin_e (pt 0)) [] refl)

-- ---- the test is needed
-- between a difference and one of corners is a difference
difference-between : {A B : List Pt} {x : Frac} (p q : ℤ) (a b : Pt) → pos 0 ≤ℤ p → pos 0 <ℤ q → Difference A B x → Has A a → Has B b → Difference A B (mixed p q x (a -ᵛ b ÷ pos 1))
difference-between {A} {B} {x} p q a b hp hq m i j =
    let s = pos (total m.left.each) in let t = pos (total m.right.each) in let h : pos 0 ≤ℤ (p *ℤ x.over) = *ℤ_nonneg hp (<ℤ→≤ℤ m.positive) in
    let X = pt 0 in let M = pt 1 in let N = pt 2 in let K = pt 3 in let L = pt 4 in let P = var 15 in let Q = var 16 in let D = var 17 in let S = var 18 in let T = var 19 in let one = con (pos 1) in
    let k = P ⊗ D in let d = k ⊕ Q ⊗ one in let u = k ⊗ S ⊕ (Q ⊗ S) ⊗ one in let v = k ⊗ T ⊕ (Q ⊗ T) ⊗ one in
    difference_of_means (mixed p q x (a -ᵛ b ÷ pos 1))
    (mean-between (p *ℤ x.over) (q *ℤ s) h (*ℤ_pos hq (some_weight m.left)) (mean_of_weights m.left) (mean_corner i))
    (mean-between (p *ℤ x.over) (q *ℤ t) h (*ℤ_pos hq (some_weight m.right)) (mean_of_weights m.right) (mean_corner j))
    (+ℤ_pos h (*ℤ_pos hq (omega (arith, ints))))
    (prove_v (pts (x.point ∷ sum_of m.left.each A ∷ sum_of m.right.each B ∷ a ∷ b ∷ []) (p ∷ q ∷ x.over ∷ s ∷ t ∷ []))
    ((u ⊗ v) ⊗ᵛ (P ⊗ᵛ X ⊕ᵛ Q ⊗ᵛ (K ⊖ᵛ L))) (d ⊗ᵛ (v ⊗ᵛ (k ⊗ᵛ M ⊕ᵛ (Q ⊗ S) ⊗ᵛ K) ⊖ᵛ u ⊗ᵛ (k ⊗ᵛ N ⊕ᵛ (Q ⊗ T) ⊗ᵛ L)))
    (by_eq_v (d ⊗ d ⊗ P) ((S ⊗ T) ⊗ᵛ X) (D ⊗ᵛ (T ⊗ᵛ M ⊖ᵛ S ⊗ᵛ N)) m.value ∷ []) refl refl refl)
  where
    mean_of_weights : {ys : List Pt} (w : Weights ys) → Mean ys (mean_of w)
    mean_of_weights w = record { by = w; positive = some_weight w; value = refl }

-- the nearest difference passes the test
pub stopping_of_nearest : {A B : List Pt} (x : Frac) → Nearest A B x → StoppingTest A B x
stopping_of_nearest {A} {B} x n = All-weaker _ _ (λ a i. All-weaker _ _ (λ b j. each a b i j) B (all_has_itself B)) A (all_has_itself A)
  where
    each : (a b : Pt) → Has A a → Has B b → dot x.point x.point ≤ℤ (x.over *ℤ dot x.point (a -ᵛ b))
    each a b i j = by_lt_z (x.over *ℤ dot x.point (a -ᵛ b)) (dot x.point x.point) (λ l. absurd (never (nearer x (a -ᵛ b) n.reached.positive l))) (λ l. l)
      where
        never : Nearer x (a -ᵛ b) → ⊥
        never t = let y = mixed t.here t.there x (a -ᵛ b ÷ pos 1) in not_shorter x y (no_longer x y (n.least y (difference-between t.here t.there a b t.here≥ t.there> n.reached i j))) t.shorter

-- ---- one fraction
-- there is one nearest difference
pub nearest_unique : {A B : List Pt} (x y : Frac) → Nearest A B x → Nearest A B y → Same x y
nearest_unique x y p q = decide (p.least y q.reached) (q.least x p.reached)
  where
    decide : Same x y ⊎ Shorter x y → Same y x ⊎ Shorter y x → Same x y
    decide (inl s) t = s
    decide (inr s) t = absurd (not_shorter y x (no_longer y x t) s)

-- and it may be written in other terms
pub nearest-same : {A B : List Pt} (x y : Frac) → Same x y → pos 0 <ℤ y.over → Nearest A B x → Nearest A B y
nearest-same {A} {B} x y s p n = record {
  reached = record { left = n.reached.left; right = n.reached.right; positive = p; value = same_trans y x (mean_of n.reached.left less mean_of n.reached.right) n.reached.positive (sym s) n.reached.value };
  least = λ z m. which z (n.least z m);
}
  where
    which : (z : Frac) → Same x z ⊎ Shorter x z → Same y z ⊎ Shorter y z
    which z (inl t) = inl (same_trans y x z n.reached.positive (sym s) t)
    which z (inr t) = inr (shorter_trans y x z p (same_no_longer y x (sym s)) t)
