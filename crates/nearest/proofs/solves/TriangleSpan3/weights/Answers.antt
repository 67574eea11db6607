use Rattle.std.proofs.Common.{◌∙◌, ap₂}
use Rattle.integers.specs.Points.{cross}
use Rattle.convex.proofs.Sizes.{near_by}
use Rattle.nearest.proofs.Rooms.{roomy}
use Rattle.nearest.proofs.Pairs.{room_of, near-cross, near-normal}
use Rattle.nearest.proofs.solves.TriangleSpan3.weights.Goals as goal

pub cross-requires : goal.cross-requires
cross-requires c = room_of c.args.self.b c.args.self.c c.difference-q.ensures c.difference-r.ensures

pub dot-requires : goal.dot-requires
dot-requires c = roomy 4704 1568 (near_by c.normal-n.ensures (near-normal c.args.self.a c.args.self.b c.args.self.c)) (near_by (c.cross.ensures ∙ ap₂ cross c.difference-q.ensures c.difference-r.ensures) (near-cross c.args.self.b c.args.self.c)) tt tt tt

pub cross-requires-2 : goal.cross-requires-2
cross-requires-2 c = room_of c.args.self.c c.args.self.a c.difference-r.ensures c.difference-p.ensures

pub dot-requires-2 : goal.dot-requires-2
dot-requires-2 c = roomy 4704 1568 (near_by c.normal-n.ensures (near-normal c.args.self.a c.args.self.b c.args.self.c)) (near_by (c.cross-2.ensures ∙ ap₂ cross c.difference-r.ensures c.difference-p.ensures) (near-cross c.args.self.c c.args.self.a)) tt tt tt

pub cross-requires-3 : goal.cross-requires-3
cross-requires-3 c = room_of c.args.self.a c.args.self.b c.difference-p.ensures c.difference-q.ensures

pub dot-requires-3 : goal.dot-requires-3
dot-requires-3 c = roomy 4704 1568 (near_by c.normal-n.ensures (near-normal c.args.self.a c.args.self.b c.args.self.c)) (near_by (c.cross-3.ensures ∙ ap₂ cross c.difference-p.ensures c.difference-q.ensures) (near-cross c.args.self.a c.args.self.b)) tt tt tt
