use Rattle.std.proofs.Common.{rules}
use Rattle.std.proofs.lemmas.Result.{err_from_is_err_and}
use Rattle.layers.proofs.Rooms.{blocked, cleared}
use Rattle.layers.proofs.swell.Swell.check_room.Goals as goal

pub returns-in_err-check_room_along : goal.returns-in_err-check_room_along
returns-in_err-check_room_along g c =
    let (s, is, from) = err_from_is_err_and c.from_residual.result c.from_residual.ensures.1 in
    rw (is, from) (blocked c.args.self.now.by c.args.part c.loop-axis.axis-index _ (g.B.Meaning.meaning c.args.self.now.book c.args.part) _ _ c.loop-axis.invariant c.loop-axis-test.true c.in_err-check_room_along.ensures)

pub returns : goal.returns
returns g c = search (rules, cleared)
