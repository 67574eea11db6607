-- What a list of entries means: the corners of each part.
use Rattle.std.specs.Prelude.{ℕ, Bool, ◌&&◌, List, [], ◌∷◌, Ok, Err, filter, ◌==◌, int_le}
use Rattle.std.specs.List.{flat_map}
use Rattle.refusals.specs.declared.Layer.TheVariants.{BoxBook}
use Rattle.refusals.specs.declared.Refusal.{Refusal}
use Rattle.refusals.specs.Slips.{part_missing}
use Rattle.integers.specs.Points.{Pt}
use Rattle.exact.specs.Space.{at}
use Rattle.exact.specs.Spots.{spot}
use Rattle.parts.specs.declared.block.Block.{Block}
use Rattle.parts.specs.Boxes.{box}
use Rattle.parts.specs.Limits.{is_near}
use Rattle.parts.specs.Books.{Part}
use Rattle.boxes.specs.declared.entry.Entry.{Entry}

-- whether no coordinate of a is above that of b
abbrev pub each_at_most : Pt → Pt → Bool
each_at_most a b = int_le a.x b.x && (int_le a.y b.y && int_le a.z b.z)

-- whether the entry is part n's, low is nowhere above high, and no coordinate is beyond ±5; any other entry is skipped
abbrev pub counts_for_part : ℕ → Entry → Bool
counts_for_part n e = e.part == n && ((is_near 5 (at e.low) && is_near 5 (at e.high)) && each_at_most (at e.low) (at e.high))

-- where the low and the high corner of a block lie
abbrev pub ends : Block → Pt × Pt
ends b = (spot b.low, spot b.high)

-- the eight corners of an entry
abbrev pub corners_of : Entry → List Pt
corners_of e = box (at e.low) (at e.high)

-- the corners of part n: those of its entries, in order
abbrev pub listed : ℕ → List Entry → List Pt
listed n es = flat_map corners_of (filter (counts_for_part n) es)

-- the corners ps, or the slip where there are none
abbrev pub corners_or : Refusal → List Pt → Part
corners_or s [] = Err s
corners_or s (p ∷ ps) = Ok (p ∷ ps)

-- part n of the book of these entries
abbrev pub boxed : List Entry → ℕ → Part
boxed es n = corners_or (part_missing BoxBook n) (listed n es)
