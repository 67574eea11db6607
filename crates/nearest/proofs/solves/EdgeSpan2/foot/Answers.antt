use Rattle.std.proofs.Common.{◌∙◌, ap₂}
use Rattle.integers.specs.Points.{◌-ᵛ◌, ◌·ᵛ◌, dot}
use Rattle.integers.proofs.Overflow.{passed}
use Rattle.convex.proofs.Sizes.{near_by, size_by}
use Rattle.nearest.proofs.Rooms.{wide_by, roomy, scaly}
use Rattle.nearest.proofs.Pairs.{wide_of, near-between, near_edge, size_edge_first, size_edge_second, near_first, near-second}
use Rattle.nearest.proofs.solves.EdgeSpan2.foot.Goals as goal

pub sub-e-requires : goal.sub-e-requires
sub-e-requires c = (wide_of c.args.self.b c.difference-q.ensures, wide_of c.args.self.a c.difference-p.ensures)

pub dot-requires : goal.dot-requires
dot-requires c = roomy 28 56 (near_by c.difference-q.ensures (near-between c.args.self.b)) (near_by (c.sub-e.ensures ∙ ap₂ ◌-ᵛ◌ c.difference-q.ensures c.difference-p.ensures) (near_edge c.args.self.a c.args.self.b)) tt tt tt

pub mul-requires : goal.mul-requires
mul-requires c = scaly 4704 28 (size_by (passed c.dot.result c.dot.type_inv ∙ c.dot.ensures ∙ ap₂ dot c.difference-q.ensures (c.sub-e.ensures ∙ ap₂ ◌-ᵛ◌ c.difference-q.ensures c.difference-p.ensures)) (size_edge_second c.args.self.a c.args.self.b)) (near_by c.difference-p.ensures (near-between c.args.self.a)) tt tt tt

pub dot-requires-2 : goal.dot-requires-2
dot-requires-2 c = roomy 28 56 (near_by c.difference-p.ensures (near-between c.args.self.a)) (near_by (c.sub-e.ensures ∙ ap₂ ◌-ᵛ◌ c.difference-q.ensures c.difference-p.ensures) (near_edge c.args.self.a c.args.self.b)) tt tt tt

pub mul-requires-2 : goal.mul-requires-2
mul-requires-2 c = scaly 4704 28 (size_by (passed c.dot-2.result c.dot-2.type_inv ∙ c.dot-2.ensures ∙ ap₂ dot c.difference-p.ensures (c.sub-e.ensures ∙ ap₂ ◌-ᵛ◌ c.difference-q.ensures c.difference-p.ensures)) (size_edge_first c.args.self.a c.args.self.b)) (near_by c.difference-q.ensures (near-between c.args.self.b)) tt tt tt

pub sub-requires : goal.sub-requires
sub-requires c = (wide_by (c.mul.ensures ∙ ap₂ ◌·ᵛ◌ (passed c.dot.result c.dot.type_inv ∙ c.dot.ensures ∙ ap₂ dot c.difference-q.ensures (c.sub-e.ensures ∙ ap₂ ◌-ᵛ◌ c.difference-q.ensures c.difference-p.ensures)) c.difference-p.ensures) (near_first c.args.self.a c.args.self.b) tt, wide_by (c.mul-2.ensures ∙ ap₂ ◌·ᵛ◌ (passed c.dot-2.result c.dot-2.type_inv ∙ c.dot-2.ensures ∙ ap₂ dot c.difference-p.ensures (c.sub-e.ensures ∙ ap₂ ◌-ᵛ◌ c.difference-q.ensures c.difference-p.ensures)) c.difference-q.ensures) (near-second c.args.self.a c.args.self.b) tt)

pub returns : goal.returns
returns c = c.sub.ensures ∙ ap₂ ◌-ᵛ◌ (c.mul.ensures ∙ ap₂ ◌·ᵛ◌ (passed c.dot.result c.dot.type_inv ∙ c.dot.ensures ∙ ap₂ dot c.difference-q.ensures (c.sub-e.ensures ∙ ap₂ ◌-ᵛ◌ c.difference-q.ensures c.difference-p.ensures)) c.difference-p.ensures) (c.mul-2.ensures ∙ ap₂ ◌·ᵛ◌ (passed c.dot-2.result c.dot-2.type_inv ∙ c.dot-2.ensures ∙ ap₂ dot c.difference-p.ensures (c.sub-e.ensures ∙ ap₂ ◌-ᵛ◌ c.difference-q.ensures c.difference-p.ensures)) c.difference-q.ensures)
