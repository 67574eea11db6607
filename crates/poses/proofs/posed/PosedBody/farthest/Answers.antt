-- The book's farthest corner along the direction turned back, turned and moved, is farthest of the posed part.
use Rattle.exact.specs.Spots.{heading}
use Rattle.poses.proofs.Sweeps.{found-posed}
use Rattle.poses.proofs.posed.PosedBody.farthest.Goals as goal

pub returns : goal.returns
returns g c =
    let p = c.args.self.now in
    found-posed p.pose (g.B.Meaning.meaning p.book.now p.part) (heading c.args.direction) (heading c.turned_back-back.result) c.in_ok-found.found c.turned.result c.moved.result
    c.turned_back-back.ensures c.turned.ensures c.moved.ensures c.in_ok-found.ensures
