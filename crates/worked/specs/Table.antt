-- Twelve worked measurements: two bodies, their nearest difference d / w, and their squared gap p / q.
use Rattle.std.specs.Prelude.{◌≡◌, ℕ, List, [], ◌∷◌, ℤ, pos, negsuc}
use Rattle.integers.specs.Points.{Pt}
use Rattle.exact.specs.Space.{at}
use Rattle.nearest.specs.declared.measurement.Measurement.{Measurement}
use Rattle.nearest.specs.Measurements.{Reports}

pub record Row : Type 0 where
  pub first : List Pt
  pub second : List Pt
  pub d : Pt
  pub w : ℤ
  pub p : ℕ
  pub q : ℕ

abbrev pub point : ℤ → ℤ → ℤ → Pt
point x y z = record { x = x; y = y; z = z }

-- m says what the row says
pub record Says (r : Row) (m : Measurement) : Type 0 where
  pub d_is : at m.difference.point ≡ r.d
  pub w_is : m.difference.over ≡ r.w
  pub p_is : m.gap.p ≡ r.p
  pub q_is : m.gap.q ≡ r.q

-- whatever reports the measurement of the row's bodies says what the row says
abbrev pub Correct : Row → Type 0
Correct r = (m : Measurement) → Reports r.first r.second m → Says r m

-- the eight corners of a box, numbered by bits for x, y and z: clear takes low, set takes high
abbrev pub box : Pt → Pt → List Pt
box l h =
    point l.x l.y l.z ∷ point l.x l.y h.z ∷ point l.x h.y l.z ∷ point l.x h.y h.z
    ∷ point h.x l.y l.z ∷ point h.x l.y h.z ∷ point h.x h.y l.z ∷ point h.x h.y h.z ∷ []

abbrev pub table : List Row
table =
    -- two points
    record { first = point (pos 0) (pos 0) (pos 0) ∷ []; second = point (pos 3) (pos 4) (pos 0) ∷ []; d = point (negsuc 2) (negsuc 3) (pos 0); w = pos 1; p = 25; q = 1 }
    ∷
    -- a segment and a point
    record { first = point (pos 0) (pos 0) (pos 0) ∷ point (pos 2) (pos 0) (pos 0) ∷ []; second = point (pos 1) (pos 1) (pos 0) ∷ []; d = point (pos 0) (negsuc 0) (pos 0); w = pos 1; p = 1; q = 1 }
    ∷
    -- the gap of a half
    record { first = point (pos 1) (pos 0) (pos 0) ∷ point (pos 0) (pos 1) (pos 0) ∷ []; second = point (pos 0) (pos 0) (pos 0) ∷ []; d = point (pos 1) (pos 1) (pos 0); w = pos 2; p = 1; q = 2 }
    ∷
    -- the gap of a third
    record { first = point (pos 1) (pos 0) (pos 0) ∷ point (pos 0) (pos 1) (pos 0) ∷ point (pos 0) (pos 0) (pos 1) ∷ []; second = point (pos 0) (pos 0) (pos 0) ∷ []; d = point (pos 1) (pos 1) (pos 1); w = pos 3; p = 1; q = 3 }
    ∷
    -- the gap of four ninths
    record { first = point (pos 2) (pos 0) (pos 0) ∷ point (pos 0) (pos 1) (pos 0) ∷ point (pos 0) (pos 0) (pos 1) ∷ []; second = point (pos 0) (pos 0) (pos 0) ∷ []; d = point (pos 2) (pos 4) (pos 4); w = pos 9; p = 4; q = 9 }
    ∷
    -- four corners in one plane
    record { first = point (negsuc 0) (negsuc 0) (pos 0) ∷ point (negsuc 0) (pos 1) (pos 0) ∷ point (pos 1) (negsuc 0) (pos 0) ∷ point (pos 1) (pos 1) (pos 0) ∷ []; second = point (pos 0) (pos 0) (pos 3) ∷ []; d = point (pos 0) (pos 0) (negsuc 2); w = pos 1; p = 9; q = 1 }
    ∷
    -- a point inside a cube
    record { first = box (point (negsuc 0) (negsuc 0) (negsuc 0)) (point (pos 1) (pos 1) (pos 1)); second = point (pos 0) (pos 0) (pos 0) ∷ []; d = point (pos 0) (pos 0) (pos 0); w = pos 1; p = 0; q = 1 }
    ∷
    -- cubes that touch
    record { first = box (point (negsuc 0) (negsuc 0) (negsuc 0)) (point (pos 1) (pos 1) (pos 1)); second = box (point (pos 1) (negsuc 0) (negsuc 0)) (point (pos 3) (pos 1) (pos 1)); d = point (pos 0) (pos 0) (pos 0); w = pos 1; p = 0; q = 1 }
    ∷
    -- cubes apart
    record { first = box (point (negsuc 0) (negsuc 0) (negsuc 0)) (point (pos 1) (pos 1) (pos 1)); second = box (point (pos 4) (negsuc 0) (negsuc 0)) (point (pos 6) (pos 1) (pos 1)); d = point (negsuc 2) (pos 0) (pos 0); w = pos 1; p = 9; q = 1 }
    ∷
    -- a point that travels by (9, 0, 0)
    record { first = point (pos 0) (pos 0) (pos 0) ∷ point (pos 9) (pos 0) (pos 0) ∷ []; second = point (pos 5) (pos 3) (pos 0) ∷ []; d = point (pos 0) (negsuc 2) (pos 0); w = pos 1; p = 9; q = 1 }
    ∷
    -- (3, 0, 0) after a quarter turn
    record { first = point (pos 0) (pos 3) (pos 0) ∷ []; second = point (pos 0) (pos 0) (pos 0) ∷ []; d = point (pos 0) (pos 3) (pos 0); w = pos 1; p = 9; q = 1 }
    ∷
    -- points swelled by 2
    record { first = box (point (negsuc 1) (negsuc 1) (negsuc 1)) (point (pos 2) (pos 2) (pos 2)); second = box (point (pos 7) (negsuc 1) (negsuc 1)) (point (pos 11) (pos 2) (pos 2)); d = point (negsuc 4) (pos 0) (pos 0); w = pos 1; p = 25; q = 1 }
    ∷ []
