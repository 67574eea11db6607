-- Points of space with rational coordinates, as a point of integers over one integer, and their order by length.
use Rattle.std.specs.Prelude.{◌≡◌, ℤ, ◌*ℤ◌, ◌≤ℤ◌, ◌<ℤ◌}
use Rattle.integers.specs.Points.{Pt, ◌-ᵛ◌, ◌·ᵛ◌, dot}

-- the point divided by `over`, which is positive in what follows
pub record Frac : Type 0 where
  pub point : Pt
  pub over : ℤ

infix 5 ◌÷◌
-- p / d
abbrev pub ◌÷◌ : Pt → ℤ → Frac
p ÷ d = record { point = p; over = d }

-- x = y
abbrev pub Same : Frac → Frac → Type 0
Same x y = y.over ·ᵛ x.point ≡ x.over ·ᵛ y.point

-- |x| < |y|, by the squares
abbrev pub Shorter : Frac → Frac → Type 0
Shorter x y = (dot x.point x.point *ℤ (y.over *ℤ y.over)) <ℤ (dot y.point y.point *ℤ (x.over *ℤ x.over))

-- |x| > |y|
abbrev pub Longer : Frac → Frac → Type 0
Longer x y = Shorter y x

-- |x| ≤ |y|
abbrev pub NoLonger : Frac → Frac → Type 0
NoLonger x y = (dot x.point x.point *ℤ (y.over *ℤ y.over)) ≤ℤ (dot y.point y.point *ℤ (x.over *ℤ x.over))

-- p / q is the square of the length of x
abbrev pub SquareOf : Frac → ℤ → ℤ → Type 0
SquareOf x p q = q *ℤ dot x.point x.point ≡ p *ℤ (x.over *ℤ x.over)

infixl 6 ◌less◌
-- x − y
abbrev pub ◌less◌ : Frac → Frac → Frac
x less y = y.over ·ᵛ x.point -ᵛ x.over ·ᵛ y.point ÷ x.over *ℤ y.over
