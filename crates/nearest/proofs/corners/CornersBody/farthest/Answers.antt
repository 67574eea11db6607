use Rattle.std.proofs.Common.{subst}
use Rattle.exact.specs.Spots.{heading}
use Rattle.exact.specs.Finds.{Farthest}
use Rattle.nearest.proofs.Lists.{farthest-placed}
use Rattle.nearest.proofs.corners.CornersBody.farthest.Goals as goal

pub returns : goal.returns
returns c =
    let cs = c.args.self.now.list.now in let d = heading c.args.direction in
    farthest-placed cs d c.unwrap-best.result c.index-self-place.result (subst (Farthest cs d) c.unwrap-best.ensures c.farthest.ensures)
