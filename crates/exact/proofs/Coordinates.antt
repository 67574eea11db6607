-- Points, coordinate by coordinate.
use Rattle.std.proofs.Common.{◌≡◌}
use Rattle.integers.specs.Points.{Pt}

-- equal coordinates make equal points
pub same : {p q : Pt} → p.x ≡ q.x → p.y ≡ q.y → p.z ≡ q.z → p ≡ q
same e f g i = record { x = e i; y = f i; z = g i }
