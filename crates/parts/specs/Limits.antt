-- Tests of how far points reach.
use Rattle.std.specs.Prelude.{ℕ, Bool, true, ◌&&◌, List, [], ◌∷◌, nat_le, unsigned_abs}
use Rattle.integers.specs.Points.{Pt}

-- whether each coordinate is within ±n
abbrev pub is_near : ℕ → Pt → Bool
is_near n p = nat_le (unsigned_abs p.x) n && (nat_le (unsigned_abs p.y) n && nat_le (unsigned_abs p.z) n)

-- whether all points are so
abbrev pub are_near : ℕ → List Pt → Bool
are_near n [] = true
are_near n (p ∷ ps) = is_near n p && are_near n ps
