-- How the swell layer finds out whether a part has room: from its farthest corners along the six axes.
use Rattle.std.proofs.Common.{◌≡◌, ℕ, true, false, List, [], ◌∷◌, map, length, get_or, take, ◌<◌, ◌≤◌, ℤ, pos, negsuc, ◌-ℤ◌, ◌≤ℤ◌, Ok, Err, sym, refl, subst, arith}
use lib.Signed.{lt_z}
use Rattle.std.specs.List.{AllByRecursion}
use Rattle.std.proofs.ByRecursion.{all-has, All-weaker, All-get_or, All-map}
use Rattle.std.proofs.lemmas.List.{get_or-map, length-map, take_all}
use Rattle.std.proofs.lemmas.Int.{ints}
use Rattle.refusals.specs.declared.Refusal.{Refusal}
use Rattle.refusals.specs.Slips.{swelled_too_far}
use Rattle.integers.specs.Points.{Pt, dot}
use Rattle.integers.proofs.Order.{≤ℤ_trans}
use Rattle.convex.specs.Hulls.{Found}
use Rattle.exact.specs.declared.direction.Direction.{Direction}
use Rattle.exact.specs.Spots.{PartCorner, spot, heading}
use Rattle.parts.specs.Books.{Part}
use Rattle.layers.specs.Swells.{Inside, Roomy, Cleared}

beyond : (a k : ℤ) → lt_z a k ≡ true → k ≤ℤ a → ⊥
beyond a k e h = omega (arith, ints)

not_beyond : (a k : ℤ) → lt_z a k ≡ false → k ≤ℤ a
not_beyond a k e = omega (arith, ints)

-- a farthest corner that lies beyond has no room; one that does not gives room to all
pub too_far : (m n : ℕ) (d : Pt) (M : Part) (c : PartCorner) → lt_z (pos 5 -ℤ pos m) (dot d (spot c)) ≡ true → Found spot M d (Ok c) → Cleared {X = Unit {0}} (Inside m d) n M (Err (swelled_too_far n))
too_far m n d (Ok ps) c e f = (refl, λ h. beyond (pos 5 -ℤ pos m) (dot d (spot c)) e (all-has (Inside m d) ps (spot c) h f.one))
too_far m n d (Err s) c e f = absurd f

pub check_room : (m n : ℕ) (d : Pt) (M : Part) (c : PartCorner) → lt_z (pos 5 -ℤ pos m) (dot d (spot c)) ≡ false → Found spot M d (Ok c) → Cleared {X = Unit {0}} (Inside m d) n M (Ok tt)
check_room m n d (Ok ps) c e f = All-weaker (λ p. dot d p ≤ℤ dot d (spot c)) (Inside m d) (λ p l. ≤ℤ_trans l (not_beyond (pos 5 -ℤ pos m) (dot d (spot c)) e)) ps f.most
check_room m n d (Err s) c e f = absurd f

-- ---- along the six axes
abbrev pub axes : List Pt
axes =
    record { x = pos 1; y = pos 0; z = pos 0 }
    ∷ record { x = negsuc 0; y = pos 0; z = pos 0 }
    ∷ record { x = pos 0; y = pos 1; z = pos 0 }
    ∷ record { x = pos 0; y = negsuc 0; z = pos 0 }
    ∷ record { x = pos 0; y = pos 0; z = pos 1 }
    ∷ record { x = pos 0; y = pos 0; z = negsuc 0 }
    ∷ []

-- room on every side is room along each axis
roomy-axes : (m : ℕ) (p : Pt) → Roomy m p → AllByRecursion (λ a. Inside m a p) axes
roomy-axes m p (a, b, c) = (omega (arith, ints), (omega (arith, ints), (omega (arith, ints), (omega (arith, ints), (omega (arith, ints), (omega (arith, ints), tt))))))

axes-roomy : (m : ℕ) (p : Pt) → AllByRecursion (λ a. Inside m a p) axes → Roomy m p
axes-roomy m p (a, (b, (c, (d, (e, (f, _)))))) = (omega (arith, ints), omega (arith, ints), omega (arith, ints))

-- the directions ds are along the axes, and there is room along each of the first i
pub record Tried (m n : ℕ) (M : Part) (ds : List Direction) (i : ℕ) : Type 0 where
  pub along : map heading ds ≡ axes
  pub room : AllByRecursion (λ (d : Direction). Cleared {X = Unit {0}} (Inside m (heading d)) n M (Ok tt)) (take i ds)

-- a slip that is found along one axis is the slip of the whole
pub blocked : (m n k : ℕ) (d : Direction) (M : Part) (ds : List Direction) (s : Refusal) → Tried m n M ds k → k < length ds → Cleared {X = Unit {0}} (Inside m (heading (get_or ds k d))) n M (Err s) → Cleared {X = Unit {0}} (Roomy m) n M (Err s)
blocked m n k d (Ok ps) ds s t l (e, f) = (e, λ h. f (All-weaker (Roomy m) (Inside m (heading (get_or ds k d))) inside ps h))
  where
    inside : (p : Pt) → Roomy m p → Inside m (heading (get_or ds k d)) p
    inside p r =
        subst (λ a. Inside m a p) (get_or-map heading ds k d (heading d) l)
        (All-get_or (λ a. Inside m a p) (map heading ds) k (heading d) (omega (arith, length-map ds heading, l)) (subst (AllByRecursion (λ a. Inside m a p)) (sym t.along) (roomy-axes m p r)))
blocked m n k d (Err t) ds s _ l e = e

-- room along all six is room on every side
pub cleared : (m n k : ℕ) (M : Part) (ds : List Direction) → Tried m n M ds k → length ds ≤ k → Cleared {X = Unit {0}} (Roomy m) n M (Ok tt)
cleared m n k M ds t l = whole M (subst (AllByRecursion (λ a. Cleared {X = Unit {0}} (Inside m a) n M (Ok tt))) t.along (All-map (λ a. Cleared {X = Unit {0}} (Inside m a) n M (Ok tt)) heading ds (subst (AllByRecursion (λ (d : Direction). Cleared {X = Unit {0}} (Inside m (heading d)) n M (Ok tt))) (take_all k ds l) t.room)))
  where
    together : (ps : List Pt) → AllByRecursion (λ a. AllByRecursion (Inside m a) ps) axes → AllByRecursion (Roomy m) ps
    together [] h = tt
    together (p ∷ ps) h = (
      axes-roomy m p (All-weaker (λ a. AllByRecursion (Inside m a) (p ∷ ps)) (λ a. Inside m a p) (λ a r. r.0) axes h),
      together ps (All-weaker (λ a. AllByRecursion (Inside m a) (p ∷ ps)) (λ a. AllByRecursion (Inside m a) ps) (λ a r. r.1) axes h),
    )

    whole : (M : Part) → AllByRecursion (λ a. Cleared {X = Unit {0}} (Inside m a) n M (Ok tt)) axes → Cleared {X = Unit {0}} (Roomy m) n M (Ok tt)
    whole (Err s) h = h.0
    whole (Ok ps) h = together ps h
