-- The carrier of a simplex, from those of its faces.
use Rattle.std.proofs.Common.{◌≡◌, ℕ, zero, suc, ◌*◌, ◌<◌, ◌≤◌, true, false, ◌⊎◌, List, [], ◌∷◌, length, get_or, ℤ, pos, ◌*ℤ◌, ◌≤ℤ◌, ◌<ℤ◌, Option, Some, None, MatchOption, sym, refl, ap, ◌∙◌, subst, subst₂, inl, inr, arith, w64, to_z, of_z}
use Rattle.std.proofs.Math.Nat.{eq-or-lt_of_le}
use lib.Signed.{lt_z, ≤ℤ_refl}
use Rattle.std.specs.List.{ContainsAt as Has, AllByRecursion}
use Rattle.std.proofs.ByRecursion.{All-weaker, all-has, all_has_itself, All-from_get_or}
use Rattle.std.proofs.lemmas.Int.{ints}
use Rattle.std.proofs.lemmas.Map.Keys.{ge_from_not_lt}
use Rattle.std.specs.declared.cmp.Ordering.{Ordering}
use Rattle.std.specs.declared.cmp.Ordering.TheVariants.{Less, Equal, Greater}
use Rattle.std.specs.Ordering.{is_lt, nat_cmp, MatchOrdering}
use Rattle.std.specs.Cmp.{ranks}
use Rattle.integers.specs.Points.{Pt, dot}
use Rattle.convex.specs.Fractions.{Frac, NoLonger, SquareOf}
use Rattle.convex.specs.Means.{Mean}
use Rattle.convex.specs.Hulls.{without}
use Rattle.convex.specs.Simplices.{weights, Independent, Carries}
use Rattle.convex.proofs.Combs.{all_without}
use Rattle.convex.proofs.Fractions.{no_longer_trans, no_longer_by_squares}
use Rattle.convex.proofs.Simplices.{square-foot, gap≥, foot_laws}
use Rattle.convex.proofs.Carriers as carriers
use Rattle.convex.proofs.Carriers.{Best, carries_itself}
use Rattle.nearest.specs.declared.pair.Pair.{Pair}
use Rattle.nearest.specs.declared.carrier.Carrier.{Carrier}
use Rattle.exact.specs.declared.gap.Gap.{Gap}
use Rattle.exact.specs.Terms.{crossed}
use Rattle.nearest.specs.Pairs.{between, betweens}
use Rattle.nearest.specs.Simplices.{pairs, points}
use Rattle.nearest.specs.Shapes.{carried, Carried, ByFaces, Lesser, Better, Chosen}
use Rattle.nearest.proofs.Pairs.{weight_kept, independent, carried_is, positive}

-- the differences of a face
betweens-without : (i : ℕ) (vs : List Pair) → betweens (without i vs) ≡ without i (betweens vs)
betweens-without i [] = refl
betweens-without zero (v ∷ vs) = refl
betweens-without (suc i) (v ∷ vs) = ap (λ t. between v ∷ t) (betweens-without i vs)

-- no mean is shorter than what is carried
pub least : {vs : List Pair} {r : Carrier} → Carried vs r → (y : Frac) → Mean (betweens vs) y → NoLonger (carried r) y
least {r = r} c y m = subst (λ x. NoLonger x y) (sym (carried_is r)) (c.carries.shortest.least y m)

-- positive weights: all of the pairs
pub whole : (vs : List Pair) (r : Carrier) → pairs r.simplex ≡ vs → AllByRecursion (λ k. pos 0 <ℤ k) (weights (betweens vs)) → Carried vs r
whole vs r e k = subst (λ us. Carried us r) e (record { among = all_has_itself (pairs r.simplex); carries = carries_itself (points r.simplex) (independent r.simplex) (subst (λ us. AllByRecursion (λ k. pos 0 <ℤ k) (weights (betweens us))) (sym e) k) })

-- the weight of the pair at k
abbrev pub weight : List Pair → ℕ → ℤ
weight vs k = get_or (weights (betweens vs)) k (pos 0)

-- not both
not_small : {x : ℤ} → pos 0 <ℤ x → x ≤ℤ pos 0 → ⊥
not_small h k = omega (arith, ints)

-- ---- the best of the faces
-- r is the best of the first n faces of vs, of which one counts
pub record Solved (vs : List Pair) (n : ℕ) (r : Carrier) : Type 0 where
  pub face : ℕ
  pub face_in : face < n
  pub counts : weight vs face ≤ℤ pos 0
  pub among : AllByRecursion (Has vs) (pairs r.simplex)
  pub best : Best (betweens vs) n (points r.simplex)

-- the best of the first n faces, or nothing, where no one counts
abbrev pub SoFar : List Pair → ℕ → Option Carrier → Type 0
SoFar vs n None = (j : ℕ) → j < n → pos 0 <ℤ weight vs j
SoFar vs n (Some r) = Solved vs n r

-- before the first
pub no_face : (vs : List Pair) → SoFar vs 0 None
no_face vs j l = absurd (omega arith)

module _ (vs : List Pair) (n : ℕ) (r : Carrier) (c : Carried (without n vs) r) where
  among-all : AllByRecursion (Has vs) (pairs r.simplex)
  among-all = All-weaker _ _ (λ x l. all-has (Has vs) (without n vs) x (all_without (Has vs) n vs (all_has_itself vs)) l) (pairs r.simplex) c.among

  carries_face : Carries (points r.simplex) (without n (betweens vs))
  carries_face = subst (λ t. Carries (points r.simplex) t) (betweens-without n vs) c.carries

-- one more, after others
solved_next : (vs : List Pair) (n : ℕ) (b r : Carrier) → Solved vs n b → Better (weight vs n) (without n vs) b r → Solved vs (suc n) r
solved_next vs n b r h c = which c.from
  where
    best_of : (points r.simplex ≡ points b.simplex) ⊎ Carries (points r.simplex) (without n (betweens vs)) → Best (betweens vs) (suc n) (points r.simplex)
    best_of from = carriers.best_next (betweens vs) n (points b.simplex) (points r.simplex) h.best from (subst₂ NoLonger (carried_is r) (carried_is b) c.older) (λ o y m. subst (λ x. NoLonger x y) (carried_is r) (c.newer o y (subst (λ t. Mean t y) (sym (betweens-without n vs)) m)))

    solved : AllByRecursion (Has vs) (pairs r.simplex) → (points r.simplex ≡ points b.simplex) ⊎ Carries (points r.simplex) (without n (betweens vs)) → Solved vs (suc n) r
    solved a from = record { face = h.face; face_in = omega (arith, h.face_in); counts = h.counts; among = a; best = best_of from }

    which : (r ≡ b) ⊎ Carried (without n vs) r → Solved vs (suc n) r
    which (inl e) = solved (subst (λ t. AllByRecursion (Has vs) (pairs t.simplex)) (sym e) h.among) (inl (ap (λ t. points t.simplex) e))
    which (inr f) = solved (among-all vs n r f) (inr (carries_face vs n r f))

-- one more
pub next_face : (vs : List Pair) (n : ℕ) (b r : Option Carrier) → SoFar vs n b → Chosen (weight vs n) (without n vs) b r → SoFar vs (suc n) r
next_face vs n None None h c = λ j l. last (eq-or-lt_of_le (omega (arith, l)))
  where
    last : {j : ℕ} → (j ≡ n) ⊎ (j < n) → pos 0 <ℤ weight vs j
    last {j} (inr l) = h j l
    last {j} (inl e) = subst (λ i. pos 0 <ℤ weight vs i) (sym e) c
next_face vs n None (Some r) h c = record { face = n; face_in = omega arith; counts = c.0; among = among-all vs n r c.1; best = carriers.best-first (betweens vs) n (points r.simplex) (λ j l. not_small (h j l)) (carries_face vs n r c.1) }
next_face vs n (Some b) None h c = absurd c
next_face vs n (Some b) (Some r) h c = solved_next vs n b r h c

-- all of them
pub all_faces : (vs : List Pair) (r : Option Carrier) → Independent (betweens vs) → SoFar vs (length (betweens vs)) r → ByFaces vs r
all_faces vs None i h = All-from_get_or _ (weights (betweens vs)) (pos 0) (λ k l. h k (omega (arith, l, (foot_laws (betweens vs) i.some i.few).one_each)))
all_faces vs (Some r) i h = record { among = h.among; carries = carriers.best_done (betweens vs) (points r.simplex) i h.face h.face_in h.counts h.best }

-- ---- the shorter of two, by the squares
-- the square of the foot is foot · y over the extent, with any corner y of the simplex
module _ (c : Carrier) (y : Pt) (r : ℤ) (h : Has (points c.simplex) y) (e : r ≡ dot (carried c).point y) where
  pub square_is : SquareOf (carried c) r c.extent
  square_is = subst (λ t. SquareOf (carried c) t c.extent) (sym e) (subst (λ x. SquareOf x (dot x.point y) x.over) (sym (carried_is c)) (square-foot (points c.simplex) y (independent c.simplex) h))

  pub gap-low : pos 0 ≤ℤ r
  gap-low = subst (λ t. pos 0 ≤ℤ t) (sym e) (subst (λ x. pos 0 ≤ℤ dot x.point y) (sym (carried_is c)) (gap≥ (points c.simplex) y (independent c.simplex) h))

-- the order of two carried points
pub by_squares : (c d : Carrier) (k l : ℤ) → SquareOf (carried c) k c.extent → SquareOf (carried d) l d.extent → (l *ℤ c.extent) ≤ℤ (k *ℤ d.extent) → NoLonger (carried d) (carried c)
by_squares c d k l e f h = no_longer_by_squares (carried d) (carried c) l d.extent k c.extent (positive d) (positive c) f e h

-- and by the gaps: products that compare as lower are no larger
below_at : (a b : ℕ) (o : Ordering) → MatchOrdering o (a < b) (a ≡ b) (b < a) → is_lt o ≡ true → a ≤ b
below_at a b Less l h = omega (arith, l)
below_at a b Equal e h = absurd (cc)
below_at a b Greater l h = absurd (cc)

le_from_lt : (a b : ℕ) → is_lt (nat_cmp a b) ≡ true → a ≤ b
le_from_lt a b = below_at a b (nat_cmp a b) (ranks a b)

pos_≤ : (a b : ℕ) → a ≤ b → pos a ≤ℤ pos b
pos_≤ a b l = omega (arith, ints)

-- of two carriers the one with the lower gap is no longer than the other, and the first where it is not lower
module _ (c d : Carrier) (g h : Gap) (e : SquareOf (carried c) (pos g.p) c.extent) (f : SquareOf (carried d) (pos h.p) d.extent) (u : pos g.q ≡ c.extent) (v : pos h.q ≡ d.extent) where
  by_products : h.p * g.q ≤ g.p * h.q → NoLonger (carried d) (carried c)
  by_products l = by_squares c d (pos g.p) (pos h.p) e f (subst₂ (λ x y. (pos h.p *ℤ x) ≤ℤ (pos g.p *ℤ y)) u v (pos_≤ _ _ l))

  pub lower_gap : is_lt (crossed h g) ≡ true → NoLonger (carried d) (carried c)
  lower_gap l = by_products (le_from_lt (h.p * g.q) (g.p * h.q) l)

  pub other_gap : is_lt (crossed g h) ≡ false → NoLonger (carried d) (carried c)
  other_gap l = by_products (ge_from_not_lt (g.p * h.q) (h.p * g.q) l)

-- the one that is no longer is the lesser of the two, as the first or as the second
pub lesser_first : (c d : Carrier) → NoLonger (carried c) (carried d) → Lesser c d c
lesser_first c d l = record { from = inl refl; left = ≤ℤ_refl _; right = l }

pub lesser_second : (c d : Carrier) → NoLonger (carried d) (carried c) → Lesser c d d
lesser_second c d l = record { from = inr refl; left = l; right = ≤ℤ_refl _ }

-- so a test of their gaps tells the lesser, whichever of the two it calls narrower
pub ruleset by_gaps = (lower_gap, other_gap, lesser_first, lesser_second)

-- the best so far or one more, and the best so far where its weight is positive
pub chosen_next : {vs : List Pair} {k : ℤ} (c d r : Carrier) → Carried vs d → Lesser c d r → Better k vs c r
chosen_next {vs} c d r t l = record { from = which l.from; older = l.left; newer = λ _ y m. no_longer_trans (carried r) (carried d) y (positive d) l.right (least t y m) }
  where
    which : (r ≡ c) ⊎ (r ≡ d) → (r ≡ c) ⊎ Carried vs r
    which (inl e) = inl e
    which (inr e) = inr (subst (λ x. Carried vs x) (sym e) t)

-- one more after the best so far, if any
pub chosen_either : {vs : List Pair} {k : ℤ} (b : Option Carrier) (d r : Carrier) (P : Carrier → Type 0) → k ≤ℤ pos 0 → Carried vs d → ((x : Carrier) → P x → Lesser x d r) → MatchOption b (r ≡ d) P → Chosen k vs b (Some r)
chosen_either {vs} None d r P o t l e = (o, subst (λ x. Carried vs x) (sym e) t)
chosen_either (Some c) d r P o t l p = chosen_next c d r t (l c p)

-- ---- what the tests say of the weights
module _ (vs : List Pair) (k : ℕ) {ws : List ℤ} (e : weights (betweens vs) ≡ ws) where
  abbrev pub tested : ℤ
  tested = to_z w64 (of_z w64 (get_or ws k (pos 0)))

  pub tested_is : tested ≡ weight vs k
  tested_is = weight_kept vs k e ∙ ap (λ us. get_or us k (pos 0)) (sym e)

  pub chosen_by : (us : List Pair) (b r : Option Carrier) → Chosen tested us b r → Chosen (weight vs k) us b r
  chosen_by us b r h = subst (λ t. Chosen t us b r) tested_is h

-- ---- what the tests say of numbers
pub not_less_≤ : (x y : ℤ) → lt_z x y ≡ false → y ≤ℤ x
not_less_≤ x y h = omega (arith, ints)

pub less : (x y : ℤ) → lt_z x y ≡ true → x <ℤ y
less x y h = omega (arith, ints)
