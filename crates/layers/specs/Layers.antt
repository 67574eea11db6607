-- What a layer makes of the parts below it.
use Rattle.std.specs.Prelude.{ℕ, ◌-◌, cond, List, map, pos, Ok, Err, nat_le}
use Rattle.std.specs.List.{flat_map}
use Rattle.refusals.specs.Slips.{swelled_too_far}
use Rattle.integers.specs.Points.{Pt, ◌+ᵛ◌, ◌-ᵛ◌}
use Rattle.parts.specs.Moves.{flipped}
use Rattle.parts.specs.Boxes.{box}
use Rattle.parts.specs.Limits.{are_near}
use Rattle.parts.specs.Books.{Part}

-- every corner with x negated
abbrev pub mirrored : Part → Part
mirrored (Ok ps) = Ok (map flipped ps)
mirrored (Err s) = Err s

-- parts 0 to s of f, and n above s as part n − s of g
abbrev pub joined_at : ℕ → (ℕ → Part) → (ℕ → Part) → ℕ → Part
joined_at s f g n = cond (nat_le n s) (f n) (g (n - s))

-- (m, m, m)
abbrev pub cube : ℕ → Pt
cube m = record { x = pos m; y = pos m; z = pos m }

-- the eight corners of the box that reaches m from p on every side: a clear bit subtracts m, a set one adds it
abbrev pub widened : ℕ → Pt → List Pt
widened m p = box (p -ᵛ cube m) (p +ᵛ cube m)

-- each corner of part n widened by m, in order, where all of these stay within ±5
abbrev pub swelled : ℕ → ℕ → Part → Part
swelled m n (Ok ps) = cond (are_near 5 (flat_map (widened m) ps)) (Ok (flat_map (widened m) ps)) (Err (swelled_too_far n))
swelled m n (Err s) = Err s
