use Rattle.std.proofs.Common.{rules, sym, ◌∙◌}
use Rattle.exact.specs.Spots.{heading}
use Rattle.layers.proofs.Rooms.{too_far, check_room}
use Rattle.layers.proofs.swell.Swell.check_room_along.Goals as goal

pub returns-then-is_beyond : goal.returns-then-is_beyond
returns-then-is_beyond g c =
    rw c.swelled_too_far.ensures
    (too_far c.args.self.now.by c.args.part (heading c.args.axis) (g.B.Meaning.meaning c.args.self.now.book c.args.part) c.in_ok-c.c
    (sym c.is_beyond.ensures ∙ c.if-is_beyond.true) c.in_ok-c.ensures)

pub returns : goal.returns
returns g c = search (rules, check_room)
