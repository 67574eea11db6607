-- Corners and directions of the code as points of ℤ³, and what a limit on coordinates lets through.
use Rattle.std.specs.Prelude.{◌≡◌, ℕ, Some, None, Option, Ok, Err, Result}
use Rattle.refusals.specs.declared.Refusal.{Refusal}
use Rattle.refusals.specs.Slips.{direction_too_long}
use Rattle.exact.specs.declared.corner.Spot.{Spot}
use Rattle.exact.specs.declared.direction.Direction.{Direction}
use Rattle.exact.specs.declared.too_far.TooFar.{TooFar}
use Rattle.exact.specs.Space.{at}
use Rattle.integers.specs.Points.{Pt}
use Rattle.integers.specs.Space.{Near}

-- a corner of a part: within ±5
abbrev pub PartCorner : Type 0
PartCorner = Spot 5

-- a corner of a body on the table: within ±14
abbrev pub Corner : Type 0
Corner = Spot 14

-- where the corner c lies
abbrev pub spot : {n : ℕ} → Spot n → Pt
spot c = record { x = c.x; y = c.y; z = c.z }

-- which way d points
abbrev pub heading : Direction → Pt
heading d = at d.along

-- the point p itself where each coordinate is within ±n, and else nothing
abbrev pub Kept : ℕ → Pt → Option Pt → Type 0
Kept n p None = Near n p → ⊥
Kept n p (Some q) = Near n p × (q ≡ p)

-- the corner at p where each coordinate is within ±n, and else that n is too short
abbrev pub Reached : {m : ℕ} → ℕ → Pt → Result (Spot m) TooFar → Type 0
Reached n p (Ok c) = Near n p × (spot c ≡ p)
Reached n p (Err e) = (Near n p → ⊥) × (e.reach ≡ n)

-- the direction of the numbers of p, or the slip that says that one of them is beyond ±2,000,000,000
abbrev pub Headed : Pt → Result Direction Refusal → Type 0
Headed p (Ok d) = Near 2000000000 p × (heading d ≡ p)
Headed p (Err e) = (Near 2000000000 p → ⊥) × (e ≡ direction_too_long)
