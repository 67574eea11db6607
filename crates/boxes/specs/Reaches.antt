-- How far an entry reaches along a direction.
use Rattle.std.specs.Prelude.{ℕ, cond, Some, None, Option}
use Rattle.integers.specs.Points.{Pt, dot}
use Rattle.exact.specs.declared.scores.Product.{Product}
use Rattle.exact.specs.Space.{at}
use Rattle.parts.specs.Boxes.{vertex, towards}
use Rattle.boxes.specs.declared.entry.Entry.{Entry}
use Rattle.boxes.specs.Entries.{counts_for_part}

-- the product of d and the farthest corner of the entry's box, where the entry counts for part n
abbrev pub reach_of : ℕ → Pt → Entry → Option Product
reach_of n d e = cond (counts_for_part n e) (Some (record { 0 = dot d (vertex (at e.low) (at e.high) (towards d)) })) None
