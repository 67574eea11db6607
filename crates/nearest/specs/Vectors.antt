-- Vectors of the code as points of ℤ³.
use Rattle.integers.specs.Points.{Pt}
use Rattle.nearest.specs.declared.vectors.Vector.{Vector}

-- the point that v leads to
abbrev pub to : Vector → Pt
to v = record { x = v.x; y = v.y; z = v.z }
