-- For each row of the table: weights that reach the difference, and factors by which its numbers, and those of the gap, come to 1.
use Rattle.std.proofs.Common.{ℕ, List, [], ◌∷◌, ℤ, pos, negsuc}

pub record Certificate : Type 0 where
  pub left : List ℕ
  pub right : List ℕ
  pub four : List ℤ
  pub two : List ℤ

abbrev pub certificates : List Certificate
certificates =
    -- two points
    record { left = 1 ∷ []; right = 1 ∷ []; four = pos 0 ∷ pos 0 ∷ pos 0 ∷ pos 1 ∷ []; two = pos 0 ∷ pos 1 ∷ [] }
    ∷
    -- a segment and a point
    record { left = 1 ∷ 1 ∷ []; right = 1 ∷ []; four = pos 0 ∷ pos 0 ∷ pos 0 ∷ pos 1 ∷ []; two = pos 0 ∷ pos 1 ∷ [] }
    ∷
    -- the gap of a half
    record { left = 1 ∷ 1 ∷ []; right = 1 ∷ []; four = pos 0 ∷ pos 1 ∷ pos 0 ∷ pos 0 ∷ []; two = pos 1 ∷ pos 0 ∷ [] }
    ∷
    -- the gap of a third
    record { left = 1 ∷ 1 ∷ 1 ∷ []; right = 1 ∷ []; four = pos 0 ∷ pos 0 ∷ pos 1 ∷ pos 0 ∷ []; two = pos 1 ∷ pos 0 ∷ [] }
    ∷
    -- the gap of four ninths
    record { left = 1 ∷ 4 ∷ 4 ∷ []; right = 1 ∷ []; four = negsuc 3 ∷ pos 0 ∷ pos 0 ∷ pos 1 ∷ []; two = negsuc 1 ∷ pos 1 ∷ [] }
    ∷
    -- four corners in one plane
    record { left = 1 ∷ 1 ∷ 1 ∷ 1 ∷ []; right = 1 ∷ []; four = pos 0 ∷ pos 0 ∷ pos 0 ∷ pos 1 ∷ []; two = pos 0 ∷ pos 1 ∷ [] }
    ∷
    -- a point inside a cube
    record { left = 1 ∷ 1 ∷ 1 ∷ 1 ∷ 1 ∷ 1 ∷ 1 ∷ 1 ∷ []; right = 1 ∷ []; four = pos 0 ∷ pos 0 ∷ pos 0 ∷ pos 1 ∷ []; two = pos 0 ∷ pos 1 ∷ [] }
    ∷
    -- cubes that touch
    record { left = 0 ∷ 0 ∷ 0 ∷ 0 ∷ 1 ∷ 1 ∷ 1 ∷ 1 ∷ []; right = 1 ∷ 1 ∷ 1 ∷ 1 ∷ 0 ∷ 0 ∷ 0 ∷ 0 ∷ []; four = pos 0 ∷ pos 0 ∷ pos 0 ∷ pos 1 ∷ []; two = pos 0 ∷ pos 1 ∷ [] }
    ∷
    -- cubes apart
    record { left = 0 ∷ 0 ∷ 0 ∷ 0 ∷ 1 ∷ 1 ∷ 1 ∷ 1 ∷ []; right = 1 ∷ 1 ∷ 1 ∷ 1 ∷ 0 ∷ 0 ∷ 0 ∷ 0 ∷ []; four = pos 0 ∷ pos 0 ∷ pos 0 ∷ pos 1 ∷ []; two = pos 0 ∷ pos 1 ∷ [] }
    ∷
    -- a point that travels by (9, 0, 0)
    record { left = 4 ∷ 5 ∷ []; right = 1 ∷ []; four = pos 0 ∷ pos 0 ∷ pos 0 ∷ pos 1 ∷ []; two = pos 0 ∷ pos 1 ∷ [] }
    ∷
    -- (3, 0, 0) after a quarter turn
    record { left = 1 ∷ []; right = 1 ∷ []; four = pos 0 ∷ pos 0 ∷ pos 0 ∷ pos 1 ∷ []; two = pos 0 ∷ pos 1 ∷ [] }
    ∷
    -- points swelled by 2
    record { left = 0 ∷ 0 ∷ 0 ∷ 0 ∷ 1 ∷ 1 ∷ 1 ∷ 1 ∷ []; right = 1 ∷ 1 ∷ 1 ∷ 1 ∷ 0 ∷ 0 ∷ 0 ∷ 0 ∷ []; four = pos 0 ∷ pos 0 ∷ pos 0 ∷ pos 1 ∷ []; two = pos 0 ∷ pos 1 ∷ [] }
    ∷ []
