-- The moves that keep every length: the mirror x = 0, and the quarter turn about the z axis.
use Rattle.std.specs.Prelude.{neg_ℤ}
use Rattle.integers.specs.Points.{Pt}

-- x negated
abbrev pub flipped : Pt → Pt
flipped p = record { x = neg_ℤ p.x; y = p.y; z = p.z }

-- a quarter turn from x towards y
abbrev pub quartered : Pt → Pt
quartered p = record { x = neg_ℤ p.y; y = p.x; z = p.z }
