use Rattle.std.proofs.Common.{rules}
use Rattle.integers.specs.Space.{Near}
use Rattle.exact.specs.Spots.{spot}
use Rattle.parts.specs.Boxes.{vertex}
use Rattle.parts.proofs.Boxes.{vertex-near}
use Rattle.parts.proofs.block.Block.corner.Goals as goal

pub invariant_of-result : goal.invariant_of-result
invariant_of-result c =
    let reach : Near 5 (vertex (spot c.args.self.low) (spot c.args.self.high) c.args.octant) = vertex-near 5 (spot c.args.self.low) (spot c.args.self.high) c.args.octant c.args.self.low.near c.args.self.high.near in
    record { near = search (rules, reach) }
