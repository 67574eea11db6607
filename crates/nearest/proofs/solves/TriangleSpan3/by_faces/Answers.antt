use Rattle.std.proofs.Common.{[], ◌∷◌, None, arith}
use Rattle.convex.proofs.Independent.{independent-without}
use Rattle.nearest.specs.Pairs.{betweens}
use Rattle.nearest.proofs.Faces.{chosen_by, no_face, next_face, all_faces}
use Rattle.nearest.proofs.solves.TriangleSpan3.by_faces.Goals as goal

pub invariant_of-or_face : goal.invariant_of-or_face
invariant_of-or_face c = let s = c.args.self in record { independent = independent-without (betweens (s.a ∷ s.b ∷ s.c ∷ [])) 0 (omega arith) (omega arith) s.independent }

pub invariant_of-or_face-2 : goal.invariant_of-or_face-2
invariant_of-or_face-2 c = let s = c.args.self in record { independent = independent-without (betweens (s.a ∷ s.b ∷ s.c ∷ [])) 1 (omega arith) (omega arith) s.independent }

pub invariant_of-or_face-3 : goal.invariant_of-or_face-3
invariant_of-or_face-3 c = let s = c.args.self in record { independent = independent-without (betweens (s.a ∷ s.b ∷ s.c ∷ [])) 2 (omega arith) (omega arith) s.independent }

pub returns : goal.returns
returns c =
    let s = c.args.self in let vs = s.a ∷ s.b ∷ s.c ∷ [] in let e = c.weights.ensures in
    all_faces vs c.or_face-3.new.best s.independent
    (next_face vs 2 c.or_face-2.new.best _
    (next_face vs 1 c.or_face.new.best _
    (next_face vs 0 None _ (no_face vs) (chosen_by vs 0 e (s.b ∷ s.c ∷ []) None _ c.or_face.ensures))
    (chosen_by vs 1 e (s.a ∷ s.c ∷ []) _ _ c.or_face-2.ensures))
    (chosen_by vs 2 e (s.a ∷ s.b ∷ []) _ _ c.or_face-3.ensures))
