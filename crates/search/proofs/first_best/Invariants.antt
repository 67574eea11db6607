use Rattle.std.proofs.Common.{◌≡◌, List, ◌∷◌, ◌++◌, length}
use Rattle.search.specs.Firsts.{FirstBest, no_better}
use Rattle.search.proofs.first_best.Given as goal

-- the best so far is the first best of those seen
abbrev pub invariant-loop-next : goal.invariant-loop-next
invariant-loop-next g l = (seen : List _) × (l.initial.best ∷ g.C.Candidates.rest l.initial.candidates ≡ seen ++ g.C.Candidates.rest l.candidates) × FirstBest (no_better g.C.Item.Ord.cmp) seen l.best

abbrev pub decreases-loop-next : goal.decreases-loop-next
decreases-loop-next g l = length (g.C.Candidates.rest l.candidates)
