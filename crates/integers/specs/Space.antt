-- How far a point's coordinates reach.
use Rattle.std.specs.Prelude.{ℕ, ◌≤◌, unsigned_abs}
use Rattle.integers.specs.Points.{Pt}

-- each coordinate within ±n
abbrev pub Near : ℕ → Pt → Type 0
Near n p = (unsigned_abs p.x ≤ n) × (unsigned_abs p.y ≤ n) × (unsigned_abs p.z ≤ n)
