-- The corners of a part in their order: eight of each entry that counts for it.
use Rattle.std.proofs.Common.{◌≡◌, ℕ, ◌/◌, ◌%◌, true, List, [], ◌∷◌, Some, None, Ok, Err, Option, filter, sym, refl, ap, ◌∙◌, div-add-mod', arith}
use Rattle.std.specs.Option.{option_map}
use Rattle.std.specs.List.{flat_map, slice_get}
use Rattle.std.proofs.ByRecursion.{all-has, kept_by_passes}
use Rattle.refusals.specs.declared.Layer.TheVariants.{BoxBook}
use Rattle.refusals.specs.Slips.{part_missing}
use Rattle.exact.specs.Space.{at}
use Rattle.parts.specs.declared.octant.Octant.{Octant}
use Rattle.parts.specs.Boxes.{octants, vertex}
use Rattle.parts.specs.Books.{corner_of}
use Rattle.parts.proofs.Blocks.{nth_blocks, nth_has, in_block}
use Rattle.parts.proofs.Boxes.{box_nth}
use Rattle.boxes.specs.declared.entry.Entry.{Entry}
use Rattle.boxes.specs.Entries.{counts_for_part, corners_of, corners_or, boxed}

-- a part without entries is refused
pub unlisted : (n k : ℕ) (es : List Entry) → slice_get (filter (counts_for_part n) es) 0 ≡ None → corner_of (boxed es n) k ≡ Err (part_missing BoxBook n)
unlisted n k es = go (filter (counts_for_part n) es)
  where
    go : (xs : List Entry) → slice_get xs 0 ≡ None → corner_of (corners_or (part_missing BoxBook n) (flat_map corners_of xs)) k ≡ Err (part_missing BoxBook n)
    go [] e = refl
    go (x ∷ xs) e = absurd (cc)

-- what stands among a part's entries counts for it
pub counting : (n k : ℕ) (es : List Entry) (x : Entry) → slice_get (filter (counts_for_part n) es) k ≡ Some x → counts_for_part n x ≡ true
counting n k es x e = all-has (λ z. counts_for_part n z ≡ true) (filter (counts_for_part n) es) x (kept_by_passes (counts_for_part n) es) (nth_has (filter (counts_for_part n) es) k x (sym e))

-- of a part with one, corner k is the one of number k mod 8 of entry k div 8
pub corner_at : (n k : ℕ) (es : List Entry) (x : Entry) (o : Octant) → slice_get (filter (counts_for_part n) es) 0 ≡ Some x → slice_get octants (k % 8) ≡ Some o
    → corner_of (boxed es n) k ≡ Ok (option_map (λ e. vertex (at e.low) (at e.high) o) (slice_get (filter (counts_for_part n) es) (k / 8)))
corner_at n k es x o first is =
    known xs first
    ∙ ap Ok (ap (slice_get (flat_map corners_of xs)) (sym (div-add-mod' k 8)) ∙ nth_blocks corners_of (λ e. refl) xs (k / 8) (k % 8) (omega arith) ∙ here (slice_get xs (k / 8)))
  where
    xs : List Entry
    xs = filter (counts_for_part n) es

    known : (xs : List Entry) → slice_get xs 0 ≡ Some x → corner_of (corners_or (part_missing BoxBook n) (flat_map corners_of xs)) k ≡ Ok (slice_get (flat_map corners_of xs) k)
    known [] e = absurd (cc)
    known (y ∷ ys) e = refl

    here : (e : Option Entry) → in_block corners_of e (k % 8) ≡ option_map (λ e. vertex (at e.low) (at e.high) o) e
    here None = refl
    here (Some y) = box_nth (at y.low) (at y.high) (k % 8) o is
