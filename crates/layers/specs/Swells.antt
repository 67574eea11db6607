-- What the swell layer finds out of a part before it answers: whether every corner has room for it.
use Rattle.std.specs.Prelude.{◌≡◌, ℕ, ◌+◌, ◌≤◌, pos, ◌-ℤ◌, ◌≤ℤ◌, Ok, Err, Result, unsigned_abs}
use Rattle.std.specs.List.{AllByRecursion}
use Rattle.refusals.specs.declared.Refusal.{Refusal}
use Rattle.refusals.specs.Slips.{swelled_too_far}
use Rattle.integers.specs.Points.{Pt, dot}
use Rattle.parts.specs.Books.{Part}

-- p, moved by m along the axis d, lies within 5
abbrev pub Inside : ℕ → Pt → Pt → Type 0
Inside m d p = (dot d p) ≤ℤ (pos 5 -ℤ pos m)

-- p stays within ±5 when it is moved by m along any axis
abbrev pub Roomy : ℕ → Pt → Type 0
Roomy m p = (unsigned_abs p.x + m ≤ 5) × (unsigned_abs p.y + m ≤ 5) × (unsigned_abs p.z + m ≤ 5)

-- each corner has room in the sense of P, or the slip of part n: its own, and else that it is swelled too far
abbrev pub Cleared : {X : Type 0} → (Pt → Type 0) → ℕ → Part → Result X Refusal → Type 0
Cleared P n (Err s) r = r ≡ Err s
Cleared P n (Ok ps) (Ok x) = AllByRecursion P ps
Cleared P n (Ok ps) (Err t) = (t ≡ swelled_too_far n) × (AllByRecursion P ps → ⊥)
