-- The two ends of a travel.
use Rattle.std.specs.Prelude.{◌≡◌, Some, None, Option}
use Rattle.integers.specs.Points.{Pt, ◌+ᵛ◌}
use Rattle.integers.specs.Space.{Near}
use Rattle.exact.specs.Spots.{spot}
use Rattle.poses.specs.declared.ends.Ends.{Ends}

-- the ends of the travel v from the offset o, where both are within ±9, and else nothing
abbrev pub EndsOf : Pt → Pt → Option Ends → Type 0
EndsOf o v (Some e) = (spot e.start ≡ o) × (spot e.end ≡ o +ᵛ v)
EndsOf o v None = Near 9 o → Near 9 (o +ᵛ v) → ⊥
