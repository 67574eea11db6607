-- The farthest corner of a part: that of the entry that reaches farthest.
use Rattle.std.proofs.Common.{◌≡◌, ℕ, zero, suc, Bool, true, false, cond, not, List, [], ◌∷◌, get_or, ℤ, ◌≤ℤ◌, Some, None, Ok, Err, filter, Option, sym, refl, ap, ◌∙◌, subst, arith, rules}
use Rattle.std.specs.Option.{option_map, option_cmp, ok_or, MatchOption}
use Rattle.std.specs.Ordering.{int_cmp, is_gt}
use Rattle.std.specs.List.{ContainsAt as Has, flat_map, AllByRecursion}
use Rattle.std.proofs.ByRecursion.{All-weaker, All-from_get_or, all-has, all_has_itself, all_kept_by, kept_by_passes, has_get_or}
use Rattle.std.proofs.lemmas.Bool.{cond-true, cond-false}
use Rattle.std.proofs.lemmas.Option.{cond_some}
use Rattle.refusals.specs.declared.Refusal.{Refusal}
use Rattle.refusals.specs.declared.Layer.TheVariants.{BoxBook}
use Rattle.refusals.specs.Slips.{part_missing}
use Rattle.integers.specs.Points.{Pt, dot}
use Rattle.integers.proofs.Order.{≤ℤ_trans}
use Rattle.convex.specs.Hulls.{Farthest, Found}
use Rattle.search.specs.declared.Scored.{Scored}
use Rattle.search.specs.Firsts.{no_better}
use Rattle.search.specs.Places.{FirstPlace, Placed}
use Rattle.exact.specs.declared.scores.Product.{Product}
use Rattle.exact.specs.Space.{at}
use Rattle.exact.specs.Spots.{PartCorner, spot}
use Rattle.parts.specs.declared.octant.Octant.{Octant}
use Rattle.parts.specs.Boxes.{vertex, towards}
use Rattle.parts.proofs.Boxes.{box-farthest, box_has}
use Rattle.parts.proofs.Blocks.{all_joined, has_joined, has_first, has_later}
use Rattle.boxes.specs.declared.entry.Entry.{Entry}
use Rattle.boxes.specs.Entries.{counts_for_part, corners_of, corners_or, listed, boxed}
use Rattle.boxes.specs.Reaches.{reach_of}
use Rattle.boxes.specs.EntryLaws.{counted}

-- the corner of an entry's box
abbrev pub vertex_of : Entry → Octant → Pt
vertex_of e o = vertex (at e.low) (at e.high) o

-- a corner or nothing, by whether the entry counts
abbrev pub vertex_for_part : ℕ → Entry → Octant → Option Pt
vertex_for_part n e o = cond (counts_for_part n e) (Some (vertex_of e o)) None

abbrev better : Option Product → Option Product → Bool
better = no_better (option_cmp (λ (x y : Product). int_cmp x.0 y.0))

-- ---- entries that are kept
kept_has : {X : Type 0} (test : X → Bool) (xs : List X) (x : X) → test x ≡ true → Has xs x → Has (filter test xs) x
kept_has test [] x t (k, l, e) = absurd (omega arith)
kept_has test (y ∷ xs) x t (zero, l, e) = subst (λ v. Has v x) (sym (cond-true (test y) _ _ (ap test (e x) ∙ t))) (subst (λ v. Has (y ∷ filter test xs) v) (e x) (has_first y (filter test xs)))
kept_has test (y ∷ xs) x t (suc k, l, e) = go (test y) (kept_has test xs x t (k, omega arith, e))
  where
    go : (b : Bool) → Has (filter test xs) x → Has (cond b (y ∷ filter test xs) (filter test xs)) x
    go true h = has_later y x (filter test xs) h
    go false h = h

kept_none : {X : Type 0} (test : X → Bool) (xs : List X) → AllByRecursion (λ x. test x ≡ false) xs → filter test xs ≡ []
kept_none test [] h = refl
kept_none test (x ∷ xs) h = cond-false (test x) _ _ h.0 ∙ kept_none test xs h.1

-- ---- what no better reach says
-- a product that is no better than that of p is no larger
reaches_less : (d : Pt) (x : Entry) (p : Pt) (n : ℕ) → counts_for_part n x ≡ true → better (reach_of n d x) (Some (record { 0 = dot d p })) ≡ true → dot d (vertex_of x (towards d)) ≤ℤ dot d p
reaches_less d x p n t b = no_larger (dot d (vertex_of x (towards d))) (dot d p) (subst (λ v. better v (Some (record { 0 = dot d p })) ≡ true) (cond-true (counts_for_part n x) (Some (record { 0 = dot d (vertex_of x (towards d)) })) None t) b)
  where
    no_larger : (k l : ℤ) → not (is_gt (int_cmp k l)) ≡ true → k ≤ℤ l
    no_larger k l h = search rules

-- an entry that is no better than nothing does not count
skipped : (n : ℕ) (d : Pt) (x : Entry) → better (reach_of n d x) None ≡ true → counts_for_part n x ≡ false
skipped n d x = go (counts_for_part n x)
  where
    go : (b : Bool) → better (cond b (Some (record { 0 = dot d (vertex_of x (towards d)) })) None) None ≡ true → b ≡ false
    go true k = sym k
    go false k = refl

-- ---- the farthest corner
found_some : (s : Refusal) (ps : List Pt) (d : Pt) (c : PartCorner) → Farthest ps d (spot c) → Found spot (corners_or s ps) d (Ok c)
found_some s [] d c h = let (k, l, e) = h.one in absurd (omega arith)
found_some s (p ∷ ps) d c h = h

-- of the entry whose farthest corner none exceeds
boxed-found : (n : ℕ) (d : Pt) (es : List Entry) (e : Entry) (s : Scored ℕ (Option Product)) (c : PartCorner) → FirstPlace better (reach_of n d) es s → Some (spot c) ≡ vertex_for_part n (get_or es s.candidate e) (towards d) → Found spot (boxed es n) d (Ok c)
boxed-found n d es e s c h v =
    found_some (part_missing BoxBook n) (listed n es) d c (record {
      one = has_joined corners_of kept best (spot c) (kept_has (counts_for_part n) es best t (has_get_or es s.candidate e h.inside)) (subst (λ p. Has (corners_of best) p) is (box_has (at best.low) (at best.high) (towards d)));
      most = all_joined (λ p. dot d p ≤ℤ dot d (spot c)) corners_of kept (All-weaker (Has kept) (λ x. AllByRecursion (λ p. dot d p ≤ℤ dot d (spot c)) (corners_of x)) most kept (all_has_itself kept));
    })
  where
    best : Entry
    best = get_or es s.candidate e

    kept : List Entry
    kept = filter (counts_for_part n) es

    t : counts_for_part n best ≡ true
    t = (cond_some (counts_for_part n best) (vertex_of best (towards d)) (spot c) (sym v)).0

    is : vertex_of best (towards d) ≡ spot c
    is = (cond_some (counts_for_part n best) (vertex_of best (towards d)) (spot c) (sym v)).1

    score_is : s.score ≡ Some (record { 0 = dot d (spot c) })
    score_is = h.score_is e ∙ cond-true (counts_for_part n best) _ _ t ∙ ap (λ p. Some (record { 0 = dot d p })) is

    most : (x : Entry) → Has kept x → AllByRecursion (λ p. dot d p ≤ℤ dot d (spot c)) (corners_of x)
    most x k =
        let counts : counts_for_part n x ≡ true = all-has (λ z. counts_for_part n z ≡ true) kept x (kept_by_passes (counts_for_part n) es) k in
        let worse : better (reach_of n d x) (Some (record { 0 = dot d (spot c) })) ≡ true =
        all-has (λ z. better (reach_of n d z) (Some (record { 0 = dot d (spot c) })) ≡ true) kept x
        (all_kept_by (counts_for_part n) _ es (All-from_get_or _ es e (λ k l. subst (λ v. better (reach_of n d (get_or es k e)) v ≡ true) score_is (h.best k e l)))) k in
        All-weaker (λ p. dot d p ≤ℤ dot d (vertex_of x (towards d))) (λ p. dot d p ≤ℤ dot d (spot c)) (λ p m. ≤ℤ_trans m (reaches_less d x (spot c) n counts worse))
        (corners_of x) (box-farthest d (at x.low) (at x.high) (counted n x counts).under)

-- where even the best entry does not count, none does
boxed_none : (n : ℕ) (d : Pt) (es : List Entry) (e : Entry) (s : Scored ℕ (Option Product)) → FirstPlace better (reach_of n d) es s → None ≡ vertex_for_part n (get_or es s.candidate e) (towards d) → Found (spot {n = 5}) (boxed es n) d (Err (part_missing BoxBook n))
boxed_none n d es e s h v =
    subst (λ xs. Found (spot {n = 5}) (corners_or (part_missing BoxBook n) (flat_map corners_of xs)) d (Err (part_missing BoxBook n)))
    (sym (kept_none (counts_for_part n) es (All-from_get_or _ es e (λ k l. skipped n d (get_or es k e) (subst (λ v. better (reach_of n d (get_or es k e)) v ≡ true) score_is (h.best k e l)))))) refl
  where
    none : (b : Bool) → None ≡ cond b (Some (vertex_of (get_or es s.candidate e) (towards d))) None → b ≡ false
    none true k = absurd (cc)
    none false k = refl

    score_is : s.score ≡ None
    score_is = h.score_is e ∙ cond-false (counts_for_part n (get_or es s.candidate e)) _ _ (none (counts_for_part n (get_or es s.candidate e)) v)

-- the answer that is made of the best entry's corner
pub boxed-farthest : (n : ℕ) (d : Pt) (es : List Entry) (o : Octant) (first : Option (Scored ℕ (Option Product))) (r : Option PartCorner) (P : Scored ℕ (Option Product) → Type 0)
    → Placed better (reach_of n d) es first → o ≡ towards d → MatchOption first (r ≡ None) P → ((s : Scored ℕ (Option Product)) → P s → (e : Entry) × (option_map spot r ≡ vertex_for_part n (get_or es s.candidate e) o))
    → Found spot (boxed es n) d (ok_or r (part_missing BoxBook n))
boxed-farthest n d es o None r P h way m corner = rw (h, m) refl
boxed-farthest n d es o (Some s) None P h way m corner = let (e, v) = corner s m in boxed_none n d es e s h (v ∙ ap (vertex_for_part n (get_or es s.candidate e)) way)
boxed-farthest n d es o (Some s) (Some c) P h way m corner = let (e, v) = corner s m in boxed-found n d es e s c h (v ∙ ap (vertex_for_part n (get_or es s.candidate e)) way)
