use Rattle.std.proofs.Common.{Ok}
use Rattle.convex.specs.Hulls.{measure}
use Rattle.nearest.specs.Bodies.{OfBoth}
use Rattle.nearest.specs.Shapes.{carried}
use Rattle.nearest.proofs.Turns.{Held}
use Rattle.nearest.proofs.rounds.Bodies.nearest.Given as goal

abbrev pub invariant-loop-near : goal.invariant-loop-near
invariant-loop-near g l = OfBoth Held (g.F.Body.corners l.self.first.now) (g.G.Body.corners l.self.second.now) (Ok l.near)

abbrev pub decreases-loop-near : goal.decreases-loop-near
decreases-loop-near g l = measure 66382848 (carried l.near)
