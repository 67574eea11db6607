use Rattle.std.proofs.Common.{◌∙◌, ap₂}
use Rattle.integers.specs.Points.{cross}
use Rattle.convex.proofs.Sizes.{near_by}
use Rattle.nearest.proofs.Rooms.{roomy}
use Rattle.nearest.proofs.Pairs.{room_of, near-between, near-cross}
use Rattle.nearest.proofs.solves.determinant.Goals as goal

pub cross-requires : goal.cross-requires
cross-requires c = room_of c.args.b c.args.c c.difference-q.ensures c.difference-r.ensures

pub dot-requires : goal.dot-requires
dot-requires c = roomy 28 1568 (near_by c.difference-p.ensures (near-between c.args.a)) (near_by (c.cross.ensures ∙ ap₂ cross c.difference-q.ensures c.difference-r.ensures) (near-cross c.args.b c.args.c)) tt tt tt
