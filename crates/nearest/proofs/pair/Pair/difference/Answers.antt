use Rattle.std.proofs.Common.{rules}
use Rattle.nearest.proofs.Rooms.{wide_by}
use Rattle.nearest.proofs.pair.Pair.difference.Goals as goal

pub sub-requires : goal.sub-requires
sub-requires c = search (rules, wide_by)
