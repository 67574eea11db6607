-- Parts in poses: turned, offset, and swept along a travel.
use Rattle.std.specs.Prelude.{◌≡◌, ◌+◌, Bool, cond, List, ◌++◌, map, ℤ, pos, neg_ℤ, ◌≤ℤ◌, Ok, Err, Result, ◌==◌, int_lt, unsigned_abs}
use Rattle.refusals.specs.declared.Refusal.{Refusal}
use Rattle.refusals.specs.Slips.{pose_out_of_range}
use Rattle.integers.specs.Points.{Pt, ◌+ᵛ◌, dot}
use Rattle.integers.specs.Space.{Near}
use Rattle.exact.specs.declared.point.Point.{Point}
use Rattle.exact.specs.Space.{at}
use Rattle.parts.specs.Books.{Part}
use Rattle.poses.specs.declared.turn.Turn.{Turn}
use Rattle.poses.specs.declared.turn.Turn.TheVariants.{Straight, Quarter, Half, ThreeQuarters}
use Rattle.poses.specs.declared.pose.Pose.{Pose}

-- the number of a turn: how many quarters it is
abbrev pub quarters : Turn → ℤ
quarters Straight = pos 0
quarters Quarter = pos 1
quarters Half = pos 2
quarters ThreeQuarters = pos 3

-- the turn with the number k, or the slip where k is not 0 to 3
abbrev pub Numbered : ℤ → Result Turn Refusal → Type 0
Numbered k (Ok t) = quarters t ≡ k
Numbered k (Err e) = (pos 0 ≤ℤ k → k ≤ℤ pos 3 → ⊥) × (e ≡ pose_out_of_range)

-- p turned about the z axis: (x, y, z) goes to (x, y, z), (−y, x, z), (−x, −y, z) or (y, −x, z)
abbrev pub turned : Turn → Pt → Pt
turned Straight p = p
turned Quarter p = record { x = neg_ℤ p.y; y = p.x; z = p.z }
turned Half p = record { x = neg_ℤ p.x; y = neg_ℤ p.y; z = p.z }
turned ThreeQuarters p = record { x = p.y; y = neg_ℤ p.x; z = p.z }

-- the turn that undoes t
abbrev pub back : Turn → Turn
back Straight = Straight
back Quarter = ThreeQuarters
back Half = Half
back ThreeQuarters = Quarter

-- p turned, and then offset by o
abbrev pub placed : Turn → Pt → Pt → Pt
placed t o p = turned t p +ᵛ o

-- whether the travel v is zero
abbrev pub still : Pt → Bool
still v = unsigned_abs v.x + unsigned_abs v.y + unsigned_abs v.z == 0

-- the corners ps, and where the travel v is not zero the same once more after them, moved by it
abbrev pub swept : Pt → List Pt → List Pt
swept v ps = cond (still v) ps (ps ++ map (λ p. p +ᵛ v) ps)

-- the part in the pose s: its corners turned, offset and swept, or its slip
abbrev pub posed : Pose → Part → Part
posed s (Ok ps) = Ok (swept (at s.travel) (map (placed s.turn (at s.offset)) ps))
posed s (Err e) = Err e

-- the numbers of a pose: a turn 0 to 3, an offset within ±9, and offset plus travel within ±9
pub record InRange (turn : ℤ) (offset travel : Pt) : Type 0 where
  pub low : pos 0 ≤ℤ turn
  pub high : turn ≤ℤ pos 3
  pub near : Near 9 offset
  pub reach : Near 9 (offset +ᵛ travel)

-- the pose of exactly these numbers where they are in range, and else the slip
abbrev pub PoseOf : ℤ → Point → Point → Result Pose Refusal → Type 0
PoseOf turn offset travel (Ok s) = InRange turn (at offset) (at travel) × (quarters s.turn ≡ turn) × (s.offset ≡ offset) × (s.travel ≡ travel)
PoseOf turn offset travel (Err e) = (InRange turn (at offset) (at travel) → ⊥) × (e ≡ pose_out_of_range)

-- the end of the travel that lies farther along d: the offset, or the offset plus the travel where that has the larger product
abbrev pub farther : Pt → Pose → Pt
farther d s = let start = at s.offset in let end = start +ᵛ at s.travel in cond (int_lt (dot d start) (dot d end)) end start
