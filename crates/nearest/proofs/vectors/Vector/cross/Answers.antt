use Rattle.std.proofs.Common.{w64}
use Rattle.integers.proofs.Solver.{◌⊗◌}
use Rattle.integers.proofs.Vectors.{pt, cross_e}
use Rattle.integers.proofs.Overflow.{fits, kept_is_v}
use Rattle.nearest.proofs.Rooms.{room, one-fits, two_fit}
use Rattle.nearest.proofs.vectors.Vector.cross.Goals as goal

pub overflow_mul-result : goal.overflow_mul-result
overflow_mul-result c = fits w64 (room c.requires) ((pt 0).y ⊗ (pt 1).z) (one-fits c.requires)

pub overflow_mul-result-2 : goal.overflow_mul-result-2
overflow_mul-result-2 c = fits w64 (room c.requires) ((pt 0).z ⊗ (pt 1).y) (one-fits c.requires)

pub overflow_mul-result-3 : goal.overflow_mul-result-3
overflow_mul-result-3 c = fits w64 (room c.requires) ((pt 0).z ⊗ (pt 1).x) (one-fits c.requires)

pub overflow_mul-result-4 : goal.overflow_mul-result-4
overflow_mul-result-4 c = fits w64 (room c.requires) ((pt 0).x ⊗ (pt 1).z) (one-fits c.requires)

pub overflow_mul-result-5 : goal.overflow_mul-result-5
overflow_mul-result-5 c = fits w64 (room c.requires) ((pt 0).x ⊗ (pt 1).y) (one-fits c.requires)

pub overflow_mul-result-6 : goal.overflow_mul-result-6
overflow_mul-result-6 c = fits w64 (room c.requires) ((pt 0).y ⊗ (pt 1).x) (one-fits c.requires)

pub overflow_sub-result : goal.overflow_sub-result
overflow_sub-result c = fits w64 (room c.requires) (cross_e (pt 0) (pt 1)).x (two_fit c.requires)

pub overflow_sub-result-2 : goal.overflow_sub-result-2
overflow_sub-result-2 c = fits w64 (room c.requires) (cross_e (pt 0) (pt 1)).y (two_fit c.requires)

pub overflow_sub-result-3 : goal.overflow_sub-result-3
overflow_sub-result-3 c = fits w64 (room c.requires) (cross_e (pt 0) (pt 1)).z (two_fit c.requires)

pub returns : goal.returns
returns c = let t = two_fit c.requires in kept_is_v w64 (room c.requires) (cross_e (pt 0) (pt 1)) t t t
