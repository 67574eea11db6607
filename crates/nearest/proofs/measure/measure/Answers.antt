use Rattle.nearest.specs.Measurements.{Answers}
use Rattle.nearest.specs.Searches.{Ended}
use Rattle.nearest.proofs.Both.{on}
use Rattle.nearest.proofs.Tells.{answers}
use Rattle.nearest.proofs.measure.measure.Goals as goal

pub returns : goal.returns
returns g c = on Ended Answers (g.F.Body.corners c.args.first.now) (g.G.Body.corners c.args.second.now) c.in_ok-found.found c.report.result c.in_ok-found.ensures (λ ps qs e. answers ps qs c.in_ok-found.found c.report.result e c.report.ensures)
