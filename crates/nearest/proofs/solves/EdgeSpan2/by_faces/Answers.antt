use Rattle.std.proofs.Common.{[], ◌∷◌, None}
use Rattle.nearest.proofs.Faces.{chosen_by, no_face, next_face, all_faces}
use Rattle.nearest.proofs.solves.EdgeSpan2.by_faces.Goals as goal

pub returns : goal.returns
returns c =
    let s = c.args.self in let vs = s.a ∷ s.b ∷ [] in let e = c.weights.ensures in
    all_faces vs c.or_face-2.new.best s.independent
    (next_face vs 1 c.or_face.new.best _
    (next_face vs 0 None _ (no_face vs) (chosen_by vs 0 e (s.b ∷ []) None _ c.or_face.ensures))
    (chosen_by vs 1 e (s.a ∷ []) _ _ c.or_face-2.ensures))
