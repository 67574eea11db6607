use Rattle.std.proofs.Common.{◌∙◌, ap₂}
use Rattle.integers.specs.Points.{cross, ◌+ᵛ◌}
use Rattle.nearest.proofs.Rooms.{wide_by}
use Rattle.nearest.proofs.Pairs.{room_of, near-cross, near_crosses}
use Rattle.nearest.proofs.solves.normal.Goals as goal

pub cross-requires : goal.cross-requires
cross-requires c = room_of c.args.a c.args.b c.difference-p.ensures c.difference-q.ensures

pub cross-requires-2 : goal.cross-requires-2
cross-requires-2 c = room_of c.args.b c.args.c c.difference-q.ensures c.difference-r.ensures

pub add-requires : goal.add-requires
add-requires c = (wide_by (c.cross.ensures ∙ ap₂ cross c.difference-p.ensures c.difference-q.ensures) (near-cross c.args.a c.args.b) tt, wide_by (c.cross-2.ensures ∙ ap₂ cross c.difference-q.ensures c.difference-r.ensures) (near-cross c.args.b c.args.c) tt)

pub cross-requires-3 : goal.cross-requires-3
cross-requires-3 c = room_of c.args.c c.args.a c.difference-r.ensures c.difference-p.ensures

pub add-requires-2 : goal.add-requires-2
add-requires-2 c = (wide_by (c.add.ensures ∙ ap₂ ◌+ᵛ◌ (c.cross.ensures ∙ ap₂ cross c.difference-p.ensures c.difference-q.ensures) (c.cross-2.ensures ∙ ap₂ cross c.difference-q.ensures c.difference-r.ensures)) (near_crosses c.args.a c.args.b c.args.c) tt, wide_by (c.cross-3.ensures ∙ ap₂ cross c.difference-r.ensures c.difference-p.ensures) (near-cross c.args.c c.args.a) tt)
