-- A turn is 0 to 3 quarters, and the two ends are within ±9.
use Rattle.std.proofs.Common.{rules}
use Rattle.poses.proofs.Turns.{quarters_few}
use Rattle.poses.proofs.pose.Pose.new.Goals as goal

pub returns : goal.returns
returns c = let few = quarters_few c.in_ok-turn.turn in search rules
