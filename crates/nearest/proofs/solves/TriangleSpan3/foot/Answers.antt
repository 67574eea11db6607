use Rattle.std.proofs.Common.{◌∙◌}
use Rattle.integers.proofs.Overflow.{passed}
use Rattle.convex.proofs.Sizes.{near_by, size_by}
use Rattle.nearest.proofs.Rooms.{scaly}
use Rattle.nearest.proofs.Pairs.{near-normal, size_det}
use Rattle.nearest.proofs.solves.TriangleSpan3.foot.Goals as goal

pub mul-requires : goal.mul-requires
mul-requires c = scaly 131712 4704 (size_by (passed c.determinant.result c.determinant.type_inv ∙ c.determinant.ensures) (size_det c.args.self.a c.args.self.b c.args.self.c)) (near_by c.normal.ensures (near-normal c.args.self.a c.args.self.b c.args.self.c)) tt tt tt
