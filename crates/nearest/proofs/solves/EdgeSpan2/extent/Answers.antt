use Rattle.std.proofs.Common.{◌∙◌, ap₂}
use Rattle.integers.specs.Points.{◌-ᵛ◌}
use Rattle.convex.proofs.Sizes.{near_by}
use Rattle.nearest.proofs.Rooms.{roomy}
use Rattle.nearest.proofs.Pairs.{wide_of, near_edge}
use Rattle.nearest.proofs.solves.EdgeSpan2.extent.Goals as goal

pub sub-e-requires : goal.sub-e-requires
sub-e-requires c = (wide_of c.args.self.b c.difference.ensures, wide_of c.args.self.a c.difference-2.ensures)

pub dot-requires : goal.dot-requires
dot-requires c = roomy 56 56 (near_by (c.sub-e.ensures ∙ ap₂ ◌-ᵛ◌ c.difference.ensures c.difference-2.ensures) (near_edge c.args.self.a c.args.self.b)) (near_by (c.sub-e.ensures ∙ ap₂ ◌-ᵛ◌ c.difference.ensures c.difference-2.ensures) (near_edge c.args.self.a c.args.self.b)) tt tt tt
