-- What a part book answers of a part. The part is the list of its corners, or the slip by which it is refused.
use Rattle.std.specs.Prelude.{◌≡◌, ℕ, List, Ok, Err, Option, Result}
use Rattle.std.specs.Option.{option_map}
use Rattle.std.specs.List.{slice_get}
use Rattle.refusals.specs.declared.Refusal.{Refusal}
use Rattle.refusals.specs.Slips.{direction_too_long}
use Rattle.integers.specs.Points.{Pt}
use Rattle.integers.specs.Space.{Near}
use Rattle.convex.specs.Hulls.{Found}
use Rattle.exact.specs.Spots.{PartCorner, spot}

-- a part: its corners, or its slip
abbrev pub Part : Type 0
Part = Result (List Pt) Refusal

-- refused where a number of d is beyond ±2,000,000,000, and only else a farthest corner or the part's slip
pub record Sought (part : Part) (d : Pt) (r : Result PartCorner Refusal) : Type 0 where
  pub too_long : (Near 2000000000 d → ⊥) → r ≡ Err direction_too_long
  pub in_range : Near 2000000000 d → Found spot part d r

-- the k-th corner from 0, or nothing past the last, or the part's slip
abbrev pub corner_of : Part → ℕ → Result (Option Pt) Refusal
corner_of (Ok ps) k = Ok (slice_get ps k)
corner_of (Err s) k = Err s

-- where the answered corner lies
abbrev pub told : Result (Option PartCorner) Refusal → Result (Option Pt) Refusal
told (Ok c) = Ok (option_map spot c)
told (Err s) = Err s
