use Rattle.layers.proofs.Rooms.{Tried}
use Rattle.layers.proofs.swell.Swell.check_room.Given as goal

abbrev pub invariant-loop-axis : goal.invariant-loop-axis
invariant-loop-axis g l = Tried l.self.by l.part (g.B.Meaning.meaning l.self.book l.part) l.axis-items l.axis-index
