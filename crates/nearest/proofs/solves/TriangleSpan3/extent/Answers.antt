use Rattle.convex.proofs.Sizes.{near_by}
use Rattle.nearest.proofs.Rooms.{roomy}
use Rattle.nearest.proofs.Pairs.{near-normal}
use Rattle.nearest.proofs.solves.TriangleSpan3.extent.Goals as goal

pub dot-requires : goal.dot-requires
dot-requires c = roomy 4704 4704 (near_by c.normal-n.ensures (near-normal c.args.self.a c.args.self.b c.args.self.c)) (near_by c.normal-n.ensures (near-normal c.args.self.a c.args.self.b c.args.self.c)) tt tt tt
