-- The slips that calls give, each by what it says.
use Rattle.std.specs.Prelude.{ℕ, List, ◌++◌, codes}
use Rattle.std.specs.Fmt.{decimal}
use Rattle.refusals.specs.Numbers.{reason_number, layer_number}
use Rattle.refusals.specs.declared.Reason.TheVariants.{DirectionTooLong, NoSuchPart, SwelledTooFar, PoseOutOfRange}
use Rattle.refusals.specs.declared.Layer.{Layer}
use Rattle.refusals.specs.declared.Layer.TheVariants.{Call, Swell, Cell}
use Rattle.refusals.specs.declared.Refusal.{Refusal}

-- a number of the direction is beyond ±2,000,000,000
abbrev pub direction_too_long : Refusal
direction_too_long = record { reason = DirectionTooLong; layer = Call; place = 0 }

-- the book has no part n
abbrev pub part_missing : Layer → ℕ → Refusal
part_missing l n = record { reason = NoSuchPart; layer = l; place = n }

-- a swelled coordinate of part n is beyond ±5
abbrev pub swelled_too_far : ℕ → Refusal
swelled_too_far n = record { reason = SwelledTooFar; layer = Swell; place = n }

-- the turn is not 0 to 3, or the offset or offset plus travel is beyond ±9
abbrev pub pose_out_of_range : Refusal
pose_out_of_range = record { reason = PoseOutOfRange; layer = Cell; place = 0 }

-- what is printed of a slip: its three numbers
abbrev pub slip_text : Refusal → List ℕ
slip_text s = codes "refused by " ++ decimal (reason_number s.reason) ++ codes " (layer " ++ decimal (layer_number s.layer) ++ codes ", place " ++ decimal s.place ++ codes ")"
