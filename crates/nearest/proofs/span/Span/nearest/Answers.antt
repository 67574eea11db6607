use Rattle.nearest.proofs.Faces.{whole}
use Rattle.nearest.proofs.span.Span.nearest.Goals as goal

pub returns : goal.returns
returns g c = whole (g.Self.Span.pairs c.args.self) _ c.simplex.ensures c.in_default.ensures
