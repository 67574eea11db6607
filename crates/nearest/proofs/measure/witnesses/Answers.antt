use Rattle.std.proofs.Common.{[], ◌∷◌, sym, ap, ◌∙◌}
use Rattle.convex.specs.Simplices.{weights}
use Rattle.nearest.specs.Simplices.{pairs, points}
use Rattle.nearest.specs.Reports.{weighed, listed, padded}
use Rattle.nearest.proofs.Faces.{tested_is}
use Rattle.nearest.proofs.measure.witnesses.Goals as goal

pub returns-in-Four : goal.returns-in-Four
returns-in-Four c =
    let s = c.in-Four.s in let vs = s.a ∷ s.b ∷ s.c ∷ s.d ∷ [] in let e = c.weights-in-Four.ensures in
    (λ i. (c.weighed-in-Four.ensures ∙ ap (weighed s.a) (tested_is vs 0 e)) i ∷ ((c.weighed-in-Four-2.ensures ∙ ap (weighed s.b) (tested_is vs 1 e)) i ∷ ((c.weighed-in-Four-3.ensures ∙ ap (weighed s.c) (tested_is vs 2 e)) i ∷ ((c.weighed-in-Four-4.ensures ∙ ap (weighed s.d) (tested_is vs 3 e)) i ∷ []))))
    ∙ ap (λ t. padded (listed (pairs t) (weights (points t)))) (sym c.in-Four.is)
