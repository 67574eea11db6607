-- What the swell layer answers of a part: whether it fits, which corner is farthest, and the corners in their order.
use Rattle.std.specs.Prelude.{◌≡◌, ℕ, ◌+◌, ◌*◌, ◌/◌, ◌%◌, ◌≤◌, Bool, true, false, List, [], ◌∷◌, ◌++◌, length, ℤ, pos, ◌+ℤ◌, ◌-ℤ◌, neg_ℤ, ◌≤ℤ◌, Some, Ok, Err, Decides, None, Option, Result, ◌≢◌, unsigned_abs, refl}
use Rattle.std.proofs.Common.{sym, ap, ◌∙◌, div-add-mod', arith}
use Rattle.std.specs.Option.{option_map, ForSome}
use Rattle.std.specs.List.{flat_map, AllByRecursion, slice_get}
use Rattle.std.proofs.ByRecursion.{All-weaker, all-has}
use Rattle.std.proofs.lemmas.Int.{ints}
use Rattle.std.proofs.lemmas.Bool.{cond-true, cond-false}
use Rattle.std.proofs.lemmas.Bool.Decides.{Decides-like}
use Rattle.refusals.specs.declared.Refusal.{Refusal}
use Rattle.refusals.specs.Slips.{swelled_too_far}
use Rattle.integers.specs.Points.{Pt, dot, ◌+ᵛ◌, ◌-ᵛ◌}
use Rattle.integers.specs.Space.{Near}
use Rattle.integers.proofs.Order.{≤ℤ_trans}
use Rattle.convex.specs.Hulls.{Farthest, Found}
use Rattle.parts.specs.declared.octant.Octant.{Octant}
use Rattle.parts.specs.declared.octant.Side.{Side}
use Rattle.parts.specs.declared.octant.Side.TheVariants.{Low, High}
use Rattle.exact.specs.Spots.{PartCorner, spot}
use Rattle.parts.specs.Boxes.{taken, vertex, octants, towards, side}
use Rattle.parts.specs.Books.{Part, corner_of}
use Rattle.parts.specs.Limits.{are_near}
use Rattle.parts.proofs.Limits.{decides_all-near}
use Rattle.parts.proofs.Boxes.{Under, box-farthest, box-near, box_has, box_nth}
use Rattle.parts.proofs.Blocks.{all_joined, has_joined, nth_blocks, nth_has, in_block}
use Rattle.parts.proofs.Farthests.{dot-sum, plus≤}
use Rattle.layers.specs.Layers.{cube, widened, swelled}
use Rattle.layers.specs.Swells.{Roomy, Cleared}

-- ---- whether it fits
roomy-near : (m : ℕ) (p : Pt) → Roomy m p → AllByRecursion (Near 5) (widened m p)
roomy-near m p (a, b, c) = box-near 5 (p -ᵛ cube m) (p +ᵛ cube m) (omega (arith, ints), omega (arith, ints), omega (arith, ints)) (omega (arith, ints), omega (arith, ints), omega (arith, ints))

near-roomy : (m : ℕ) (p : Pt) → AllByRecursion (Near 5) (widened m p) → Roomy m p
near-roomy m p h =
    let low = h.0 in let high = h.1.1.1.1.1.1.1.0 in
    (back p.x low.0 high.0, back p.y low.1 high.1, back p.z low.2 high.2)
  where
    back : (x : ℤ) → unsigned_abs (x -ℤ pos m) ≤ 5 → unsigned_abs (x +ℤ pos m) ≤ 5 → unsigned_abs x + m ≤ 5
    back x k l = omega (arith, ints)

all-parts : {X Y : Type 0} (P : Y → Type 0) (f : X → List Y) (xs : List X) → AllByRecursion P (flat_map f xs) → AllByRecursion (λ x. AllByRecursion P (f x)) xs
all-parts P f [] h = tt
all-parts P f (x ∷ xs) h = (all_front P (f x) (flat_map f xs) h, all-parts P f xs (all_back P (f x) (flat_map f xs) h))
  where
    all_front : {Y : Type 0} (P : Y → Type 0) (xs ys : List Y) → AllByRecursion P (xs ++ ys) → AllByRecursion P xs
    all_front P [] ys h = tt
    all_front P (x ∷ xs) ys h = (h.0, all_front P xs ys h.1)

    all_back : {Y : Type 0} (P : Y → Type 0) (xs ys : List Y) → AllByRecursion P (xs ++ ys) → AllByRecursion P ys
    all_back P [] ys h = h
    all_back P (x ∷ xs) ys h = all_back P xs ys h.1

-- the widened corners stay within ±5 exactly where each corner has room
fits-roomy : (m : ℕ) (ps : List Pt) → Decides (are_near 5 (flat_map (widened m) ps)) (AllByRecursion (Roomy m) ps)
fits-roomy m ps =
    Decides-like (are_near 5 (flat_map (widened m) ps))
    (λ h. All-weaker (λ p. AllByRecursion (Near 5) (widened m p)) (Roomy m) (near-roomy m) ps (all-parts (Near 5) (widened m) ps h))
    (λ h. all_joined (Near 5) (widened m) ps (All-weaker (Roomy m) (λ p. AllByRecursion (Near 5) (widened m p)) (roomy-near m) ps h))
    (decides_all-near 5 (flat_map (widened m) ps))

-- what a swelled part is where each corner has room, and where one has not
swelled-fits : (m n : ℕ) (ps : List Pt) → AllByRecursion (Roomy m) ps → swelled m n (Ok ps) ≡ Ok (flat_map (widened m) ps)
swelled-fits m n ps h = cond-true (are_near 5 (flat_map (widened m) ps)) _ _ ((fits-roomy m ps).1 h)

swelled_not : (m n : ℕ) (ps : List Pt) → (AllByRecursion (Roomy m) ps → ⊥) → swelled m n (Ok ps) ≡ Err (swelled_too_far n)
swelled_not m n ps h = cond-false (are_near 5 (flat_map (widened m) ps)) _ _ (never (are_near 5 (flat_map (widened m) ps)) (λ e. h ((fits-roomy m ps).0 e)))
  where
    never : (b : Bool) → (b ≢ true) → b ≡ false
    never true k = absurd (k refl)
    never false k = refl

-- ---- farthest
-- p moved towards d by m along each axis: which way does not depend on p
moved_by : (m : ℕ) (d p : Pt) → dot d (vertex (p -ᵛ cube m) (p +ᵛ cube m) (towards d)) ≡ dot d p +ℤ dot d (vertex (record { x = neg_ℤ (pos m); y = neg_ℤ (pos m); z = neg_ℤ (pos m) }) (cube m) (towards d))
moved_by m d p = ways (side d.x) (side d.y) (side d.z)
  where
    part : (s : Side) (x : ℤ) → taken s (x -ℤ pos m) (x +ℤ pos m) ≡ x +ℤ taken s (neg_ℤ (pos m)) (pos m)
    part Low x = omega (arith, ints)
    part High x = refl

    ways : (a b c : Side) → let o : Octant = record { x = a; y = b; z = c } in dot d (vertex (p -ᵛ cube m) (p +ᵛ cube m) o) ≡ dot d p +ℤ dot d (vertex (record { x = neg_ℤ (pos m); y = neg_ℤ (pos m); z = neg_ℤ (pos m) }) (cube m) o)
    ways a b c =
        let o : Octant = record { x = a; y = b; z = c } in
        ap (dot d) (λ i. record { x = part a p.x i; y = part b p.y i; z = part c p.z i })
        ∙ dot-sum d p (vertex (record { x = neg_ℤ (pos m); y = neg_ℤ (pos m); z = neg_ℤ (pos m) }) (cube m) o)

under : (m : ℕ) (p : Pt) → Under (p -ᵛ cube m) (p +ᵛ cube m)
under m p = record { x = omega (arith, ints); y = omega (arith, ints); z = omega (arith, ints) }

-- a farthest corner, widened, has the farthest of all widened corners: the one towards d
widened-farthest : (m : ℕ) (d p : Pt) (ps : List Pt) → Farthest ps d p → Farthest (flat_map (widened m) ps) d (vertex (p -ᵛ cube m) (p +ᵛ cube m) (towards d))
widened-farthest m d p ps h = record {
  one = has_joined (widened m) ps p _ h.one (box_has (p -ᵛ cube m) (p +ᵛ cube m) (towards d));
  most = all_joined (λ x. dot d x ≤ℤ dot d (vertex (p -ᵛ cube m) (p +ᵛ cube m) (towards d))) (widened m) ps
      (All-weaker (λ x. dot d x ≤ℤ dot d p) (λ x. AllByRecursion (λ y. dot d y ≤ℤ dot d (vertex (p -ᵛ cube m) (p +ᵛ cube m) (towards d))) (widened m x))
      (λ x l. All-weaker (λ y. dot d y ≤ℤ dot d (vertex (x -ᵛ cube m) (x +ᵛ cube m) (towards d))) (λ y. dot d y ≤ℤ dot d (vertex (p -ᵛ cube m) (p +ᵛ cube m) (towards d)))
      (λ y k. ≤ℤ_trans k (plus≤ _ (moved_by m d x) (moved_by m d p) l)) (widened m x) (box-farthest d (x -ᵛ cube m) (x +ᵛ cube m) (under m x)))
      ps h.most);
}

-- ---- what the layer answers
-- the slip of a part without room
pub swelled-refused : (m n : ℕ) (d : Pt) (M : Part) (s : Refusal) → Cleared {X = Unit {0}} (Roomy m) n M (Err s) → Found (spot {n = 5}) (swelled m n M) d (Err s)
swelled-refused m n d (Ok ps) s (e, h) = rw (swelled_not m n ps h) e
swelled-refused m n d (Err t) s e = cc

-- a farthest corner of a part with room has room
pub found-roomy : (m n : ℕ) (d : Pt) (M : Part) (c : PartCorner) → Cleared {X = Unit {0}} (Roomy m) n M (Ok tt) → Found spot M d (Ok c) → Roomy m (spot c)
found-roomy m n d (Ok ps) c h f = all-has (Roomy m) ps (spot c) h f.one
found-roomy m n d (Err s) c h f = absurd f

-- and its corner towards d is a farthest one
pub swelled-found : (m n : ℕ) (d : Pt) (M : Part) (c r : PartCorner) (o : Octant) → o ≡ towards d → spot r ≡ vertex (spot c -ᵛ cube m) (spot c +ᵛ cube m) o → Cleared {X = Unit {0}} (Roomy m) n M (Ok tt) → Found spot M d (Ok c) → Found spot (swelled m n M) d (Ok r)
swelled-found m n d (Ok ps) c r o way is h f = rw (swelled-fits m n ps h, is, way) (widened-farthest m d (spot c) ps f)
swelled-found m n d (Err s) c r o way is h f = absurd f

-- ---- the corners in order
pub swelled_corner_refused : (m n k : ℕ) (M : Part) (s : Refusal) → Cleared {X = Unit {0}} (Roomy m) n M (Err s) → Err s ≡ corner_of (swelled m n M) k
swelled_corner_refused m n k (Ok ps) s (e, h) = rw (swelled_not m n ps h) (ap Err e)
swelled_corner_refused m n k (Err t) s e = cc

-- a corner of a part with room has room
pub corner_roomy : (m n q : ℕ) (M : Part) (o : Option PartCorner) → Cleared {X = Unit {0}} (Roomy m) n M (Ok tt) → Ok (option_map spot o) ≡ corner_of M q → ForSome o (λ c. Roomy m (spot c))
corner_roomy m n q (Ok ps) o h e c is = all-has (Roomy m) ps (spot c) h (nth_has ps q (spot c) (cc))
corner_roomy m n q (Err s) o h e c is = absurd (cc)

refused : (s : Refusal) → ◌≡◌ {A = Result (Unit {0}) Refusal} (Ok tt) (Err s) → ⊥
refused s e = let z : ◌≡◌ {A = ℕ} 0 1 = cc in omega arith

eight : (m : ℕ) (p : Pt) → length (widened m p) ≡ 8
eight m p = refl

split : (k : ℕ) → (k / 8) * 8 + k % 8 ≡ k
split k = div-add-mod' k 8

-- the k-th corner is the (k mod 8)-th of the eight that replace the (k div 8)-th below
pub swelled_in_block : (m n k : ℕ) (M : Part) (c : Option Pt) → Cleared {X = Unit {0}} (Roomy m) n M (Ok tt) → Ok c ≡ corner_of M (k / 8) → Ok (in_block (widened m) c (k % 8)) ≡ corner_of (swelled m n M) k
swelled_in_block m n k (Ok ps) c h e =
    let is : c ≡ slice_get ps (k / 8) = cc in
    rw (swelled-fits m n ps h) (ap Ok (ap (λ v. in_block (widened m) v (k % 8)) is ∙ sym (nth_blocks (widened m) (eight m) ps (k / 8) (k % 8) (omega arith)) ∙ ap (slice_get (flat_map (widened m) ps)) (split k)))
swelled_in_block m n k (Err s) c h e = absurd (refused s h)

-- which is the one of number k mod 8 of the box around it
pub swelled_corner : (m n k : ℕ) (M : Part) (o : Octant) (c : Option Pt) → Cleared {X = Unit {0}} (Roomy m) n M (Ok tt) → slice_get octants (k % 8) ≡ Some o → Ok c ≡ corner_of M (k / 8)
    → Ok (option_map (λ p. vertex (p -ᵛ cube m) (p +ᵛ cube m) o) c) ≡ corner_of (swelled m n M) k
swelled_corner m n k M o c h is e = ap Ok (here c) ∙ swelled_in_block m n k M c h e
  where
    here : (c : Option Pt) → option_map (λ p. vertex (p -ᵛ cube m) (p +ᵛ cube m) o) c ≡ in_block (widened m) c (k % 8)
    here None = refl
    here (Some p) = sym (box_nth (p -ᵛ cube m) (p +ᵛ cube m) (k % 8) o is)
