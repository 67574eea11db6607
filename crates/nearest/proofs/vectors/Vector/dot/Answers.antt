use Rattle.std.proofs.Common.{w64}
use Rattle.integers.proofs.Solver.{◌⊕◌, ◌⊗◌}
use Rattle.integers.proofs.Vectors.{pt, dot_e}
use Rattle.integers.proofs.Overflow.{fits, kept_is}
use Rattle.nearest.proofs.Rooms.{room, one-fits, two_fit, three_fit}
use Rattle.nearest.proofs.vectors.Vector.dot.Goals as goal

pub overflow_mul-result : goal.overflow_mul-result
overflow_mul-result c = fits w64 (room c.requires) ((pt 0).x ⊗ (pt 1).x) (one-fits c.requires)

pub overflow_mul-result-2 : goal.overflow_mul-result-2
overflow_mul-result-2 c = fits w64 (room c.requires) ((pt 0).y ⊗ (pt 1).y) (one-fits c.requires)

pub overflow_mul-result-3 : goal.overflow_mul-result-3
overflow_mul-result-3 c = fits w64 (room c.requires) ((pt 0).z ⊗ (pt 1).z) (one-fits c.requires)

pub overflow_add-result : goal.overflow_add-result
overflow_add-result c = fits w64 (room c.requires) ((pt 0).x ⊗ (pt 1).x ⊕ (pt 0).y ⊗ (pt 1).y) (two_fit c.requires)

pub overflow_add-result-2 : goal.overflow_add-result-2
overflow_add-result-2 c = fits w64 (room c.requires) (dot_e (pt 0) (pt 1)) (three_fit c.requires)

pub returns : goal.returns
returns c = kept_is w64 (room c.requires) (dot_e (pt 0) (pt 1)) (three_fit c.requires)
