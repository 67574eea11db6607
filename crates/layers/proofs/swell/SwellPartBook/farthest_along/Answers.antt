use Rattle.std.proofs.Common.{rules}
use Rattle.exact.specs.Spots.{heading}
use Rattle.layers.proofs.Swells.{swelled-refused, found-roomy, swelled-found}
use Rattle.layers.proofs.swell.SwellPartBook.farthest_along.Goals as goal

pub returns-in_err-check_room : goal.returns-in_err-check_room
returns-in_err-check_room g c = search (rules, swelled-refused)

pub widened-requires : goal.widened-requires
widened-requires g c = found-roomy c.args.self.now.by c.args.part (heading c.args.direction) (g.B.Meaning.meaning c.args.self.now.book c.args.part) c.in_ok-c.c c.in_ok-check_room.ensures c.in_ok-c.ensures

pub returns : goal.returns
returns g c = search (rules, swelled-found)
