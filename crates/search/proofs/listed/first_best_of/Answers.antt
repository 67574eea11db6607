use Rattle.std.proofs.Common.{◌∙◌, ap}
use Rattle.std.specs.Slice.Iter.{iter_rest}
use Rattle.search.specs.Firsts.{no_better}
use Rattle.search.proofs.Places.{placed}
use Rattle.search.proofs.listed.first_best_of.Goals as goal

pub returns : goal.returns
returns g c =
    placed (g.F.Scoring.score_of c.args.scoring) (no_better g.F.Score.Ord.cmp) c.args.elements.now _ _ c.first_best.result
    c.enumerate-places.ensures.count
    (ap iter_rest c.enumerate-places.ensures.source ∙ c.iter.ensures.rest)
    c.first_best.ensures
