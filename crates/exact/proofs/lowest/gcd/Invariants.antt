use Rattle.integers.proofs.Divisors.{Alike}
use Rattle.exact.proofs.lowest.gcd.Given as goal

-- the common divisors stay the same
abbrev pub invariant-loop-y : goal.invariant-loop-y
invariant-loop-y l = Alike l.x l.y l.a l.b × Alike l.a l.b l.x l.y

abbrev pub decreases-loop-y : goal.decreases-loop-y
decreases-loop-y l = l.y
