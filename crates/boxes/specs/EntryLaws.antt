-- What an entry that counts says of its box, and which corners a part has.
use Rattle.std.proofs.Common.{◌≡◌, ℕ, ◌<◌, Bool, true, false, cond, ◌&&◌, eqb, List, [], ◌∷◌, length, ℤ, ◌≤ℤ◌, IfOk, Some, None, filter, Option, sym, refl, ap, ◌∙◌, arith}
use lib.Signed.{le_z}
use Rattle.std.specs.List.{AllByRecursion}
use Rattle.std.proofs.ByRecursion.{All-weaker, kept_by_passes}
use Rattle.std.proofs.lemmas.Int.{ints}
use Rattle.std.proofs.lemmas.Bool.{and_parts, cond-true}
use Rattle.refusals.specs.declared.Refusal.{Refusal}
use Rattle.refusals.specs.declared.Layer.TheVariants.{BoxBook}
use Rattle.refusals.specs.Slips.{part_missing}
use Rattle.integers.specs.Points.{Pt}
use Rattle.integers.specs.Space.{Near}
use Rattle.exact.specs.Space.{at}
use Rattle.exact.specs.Spots.{Kept}
use Rattle.parts.specs.declared.octant.Octant.{Octant}
use Rattle.parts.specs.Boxes.{vertex}
use Rattle.parts.specs.Limits.{is_near}
use Rattle.parts.proofs.Limits.{decides_near}
use Rattle.parts.proofs.Boxes.{Under, vertex-near, box-near}
use Rattle.parts.proofs.Blocks.{all_joined}
use Rattle.boxes.specs.declared.entry.Entry.{Entry}
use Rattle.boxes.specs.Entries.{each_at_most, counts_for_part, corners_of, listed, corners_or, boxed}

-- ---- an entry that counts
pub record Counted (n : ℕ) (e : Entry) : Type 0 where
  pub low : Near 5 (at e.low)
  pub high : Near 5 (at e.high)
  pub under : Under (at e.low) (at e.high)

under : (a b : Pt) → each_at_most a b ≡ true → Under a b
under a b e =
    let (x, yz) = and_parts (le_z a.x b.x) (le_z a.y b.y && le_z a.z b.z) e in
    let (y, z) = and_parts (le_z a.y b.y) (le_z a.z b.z) yz in
    record { x = le x; y = le y; z = le z }
  where
    le : {k l : ℤ} → le_z k l ≡ true → k ≤ℤ l
    le h = omega (arith, ints)

pub counted : (n : ℕ) (e : Entry) → counts_for_part n e ≡ true → Counted n e
counted n e h =
    let (_, r) = and_parts (eqb e.part n) ((is_near 5 (at e.low) && is_near 5 (at e.high)) && each_at_most (at e.low) (at e.high)) h in
    let (near, u) = and_parts (is_near 5 (at e.low) && is_near 5 (at e.high)) (each_at_most (at e.low) (at e.high)) r in
    let (l, k) = and_parts (is_near 5 (at e.low)) (is_near 5 (at e.high)) near in
    record { low = (decides_near 5 (at e.low)).0 l; high = (decides_near 5 (at e.high)).0 k; under = under (at e.low) (at e.high) u }

kept : (p q : Pt) (r : Option Pt) → q ≡ p → Near 5 p → Kept 5 q r → r ≡ Some p
kept p q None e h k = absurd (k (rw e h))
kept p q (Some r) e h k = ap Some (k.1 ∙ e)

-- so a corner of its box that is kept where it is within ±5 is kept
pub vertex_made : (n : ℕ) (e : Entry) (o : Octant) (q : Pt) (r : Option Pt) → counts_for_part n e ≡ true → q ≡ vertex (at e.low) (at e.high) o → Kept 5 q r → r ≡ cond (counts_for_part n e) (Some (vertex (at e.low) (at e.high) o)) None
vertex_made n e o q r h is k =
    let c = counted n e h in
    kept (vertex (at e.low) (at e.high) o) q r is (vertex-near 5 (at e.low) (at e.high) o c.low c.high) k ∙ sym (cond-true (counts_for_part n e) _ _ h)

-- ---- the corners of a part
some_or : (s : Refusal) (ps : List Pt) → IfOk (corners_or s ps) (λ qs. 0 < length qs)
some_or s [] = tt
some_or s (p ∷ ps) = omega arith

pub boxed-some : (es : List Entry) (n : ℕ) → IfOk (boxed es n) (λ ps. 0 < length ps)
boxed-some es n = some_or (part_missing BoxBook n) (listed n es)

near_or : (s : Refusal) (ps : List Pt) → AllByRecursion (Near 5) ps → IfOk (corners_or s ps) (λ qs. AllByRecursion (Near 5) qs)
near_or s [] h = tt
near_or s (p ∷ ps) h = h

corners-near : (n : ℕ) (e : Entry) → counts_for_part n e ≡ true → AllByRecursion (Near 5) (corners_of e)
corners-near n e t = let c = counted n e t in box-near 5 (at e.low) (at e.high) c.low c.high

-- what holds of each entry that passes a test holds of all that are kept by it
pub kept-all : {X : Type 0} (test : X → Bool) (Q : X → Type 0) (xs : List X) → AllByRecursion (λ x. test x ≡ true → Q x) xs → AllByRecursion Q (filter test xs)
kept-all test Q [] h = tt
kept-all test Q (x ∷ xs) h = go (test x) refl (kept-all test Q xs h.1)
  where
    go : (b : Bool) → test x ≡ b → AllByRecursion Q (filter test xs) → AllByRecursion Q (cond b (x ∷ filter test xs) (filter test xs))
    go true e r = (h.0 e, r)
    go false e r = r

pub boxed-near : (es : List Entry) (n : ℕ) → IfOk (boxed es n) (λ ps. AllByRecursion (Near 5) ps)
boxed-near es n =
    near_or (part_missing BoxBook n) (listed n es) (all_joined (Near 5) corners_of (filter (counts_for_part n) es)
    (All-weaker (λ e. counts_for_part n e ≡ true) (λ e. AllByRecursion (Near 5) (corners_of e)) (corners-near n) (filter (counts_for_part n) es) (kept_by_passes (counts_for_part n) es)))
