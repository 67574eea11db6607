use Rattle.std.proofs.Common.{ap, ◌∙◌, rules}
use Rattle.std.specs.Option.{option_map}
use Rattle.integers.specs.Points.{Pt}
use Rattle.exact.specs.Spots.{spot}
use Rattle.parts.specs.Boxes.{vertex}
use Rattle.parts.proofs.Options.{mapped, map_if}
use Rattle.boxes.specs.Entries.{ends, counts_for_part}
use Rattle.boxes.proofs.entry.Entry.vertex_for.Goals as goal

pub returns : goal.returns
returns c =
    let corner : Pt × Pt → Pt = λ e. vertex e.0 e.1 c.args.octant in
    mapped ends (spot {n = 5}) corner _ (λ x y q. search rules) c.block_for.result c.map.result c.map.ensures.cases
    ∙ ap (option_map corner) c.block_for.ensures ∙ map_if corner (counts_for_part c.args.part c.args.self) _
