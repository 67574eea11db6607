-- A travel beyond ±18 does not end within ±9 where it starts there.
use Rattle.std.proofs.Common.{rules}
use Rattle.exact.specs.Space.{at}
use Rattle.poses.proofs.Reaches.{travel_near}
use Rattle.poses.proofs.ends.Ends.new.Goals as goal

pub returns-then-not-is_within : goal.returns-then-not-is_within
returns-then-not-is_within c = let t = travel_near (at c.args.offset) (at c.args.travel) in search rules
