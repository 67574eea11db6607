-- Points of the code as points of ℤ³.
use Rattle.std.specs.Prelude.{ℕ}
use Rattle.exact.specs.declared.point.Point.{Point}
use Rattle.integers.specs.Points.{Pt}
use Rattle.integers.specs.Space.{Near}

-- the point that p stands for
abbrev pub at : Point → Pt
at p = record { x = p.x; y = p.y; z = p.z }

-- each coordinate within ±n
abbrev pub Within : ℕ → Point → Type 0
Within n p = Near n (at p)
