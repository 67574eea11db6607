use Rattle.std.proofs.Common.{w64}
use Rattle.integers.proofs.Solver.{var, ◌⊗◌}
use Rattle.integers.proofs.Vectors.{pt, ◌⊗ᵛ◌}
use Rattle.integers.proofs.Overflow.{fits, kept_is_v}
use Rattle.nearest.proofs.Rooms.{scale, scale-fits}
use Rattle.nearest.proofs.vectors.I64MulVector.mul.Goals as goal

pub overflow_mul-result : goal.overflow_mul-result
overflow_mul-result c = fits w64 (scale c.requires) (var 3 ⊗ (pt 0).x) (scale-fits c.requires)

pub overflow_mul-result-2 : goal.overflow_mul-result-2
overflow_mul-result-2 c = fits w64 (scale c.requires) (var 3 ⊗ (pt 0).y) (scale-fits c.requires)

pub overflow_mul-result-3 : goal.overflow_mul-result-3
overflow_mul-result-3 c = fits w64 (scale c.requires) (var 3 ⊗ (pt 0).z) (scale-fits c.requires)

pub returns : goal.returns
returns c = let t = scale-fits c.requires in kept_is_v w64 (scale c.requires) (var 3 ⊗ᵛ pt 0) t t t
