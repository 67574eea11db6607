use Rattle.std.proofs.Common.{[], w64}
use Rattle.integers.proofs.Vectors.{pt, ◌⊕ᵛ◌}
use Rattle.integers.proofs.Overflow.{kept_is_v}
use Rattle.nearest.specs.Vectors.{to}
use Rattle.integers.proofs.Environments.{point}
use Rattle.nearest.proofs.vectors.VectorAdd.add.Goals as goal

pub returns : goal.returns
returns c = kept_is_v w64 (point (to c.args.self) c.requires.0 (point (to c.args.rhs) c.requires.1 [])) (pt 0 ⊕ᵛ pt 1) tt tt tt
