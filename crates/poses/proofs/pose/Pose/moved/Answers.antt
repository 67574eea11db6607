-- The corner at the two ends of the travel.
use Rattle.std.proofs.Common.{rules, true, false}
use Rattle.exact.specs.Spots.{heading, spot}
use Rattle.poses.proofs.Sweeps.{moved_farther}
use Rattle.poses.proofs.pose.Pose.moved.Goals as goal

pub returns-then-product : goal.returns-then-product
returns-then-product c = moved_farther c.args.self (heading c.args.direction) (spot c.args.corner) (spot c.add-start.result) (spot c.add-end.result) true (search rules) (search rules) (search rules)

pub returns-else-product : goal.returns-else-product
returns-else-product c = moved_farther c.args.self (heading c.args.direction) (spot c.args.corner) (spot c.add-start.result) (spot c.add-end.result) false (search rules) (search rules) (search rules)
