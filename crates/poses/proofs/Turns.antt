-- The numbers of turns.
use Rattle.std.proofs.Common.{pos, ◌≤ℤ◌, arith}
use Rattle.std.proofs.lemmas.Int.{ints}
use Rattle.poses.specs.declared.turn.Turn.{Turn}
use Rattle.poses.specs.declared.turn.Turn.TheVariants.{Straight, Quarter, Half, ThreeQuarters}
use Rattle.poses.specs.Poses.{quarters}

-- a turn is 0 to 3 quarters
pub quarters_few : (t : Turn) → (pos 0 ≤ℤ quarters t) × (quarters t ≤ℤ pos 3)
quarters_few Straight = (omega (arith, ints), omega (arith, ints))
quarters_few Quarter = (omega (arith, ints), omega (arith, ints))
quarters_few Half = (omega (arith, ints), omega (arith, ints))
quarters_few ThreeQuarters = (omega (arith, ints), omega (arith, ints))
