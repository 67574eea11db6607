-- Room for products: bounds of the factors whose products fit 64 bits.
use Rattle.std.specs.Prelude.{ℕ, ◌+◌, ◌*◌, ◌^◌, ◌<◌, ◌≤◌, ℤ, unsigned_abs}
use Rattle.integers.specs.Points.{Pt}
use Rattle.integers.specs.Space.{Near}

-- three products of a coordinate of a and one of b fit together
pub record Room (a b : Pt) : Type 0 where
  pub left : ℕ
  pub right : ℕ
  pub left_in : Near left a
  pub right_in : Near right b
  pub left_fits : left < 2 ^ 63
  pub right_fits : right < 2 ^ 63
  pub fits : left * right + left * right + left * right < 2 ^ 63

-- the product of k and a coordinate of a fits
pub record Scale (k : ℤ) (a : Pt) : Type 0 where
  pub left : ℕ
  pub right : ℕ
  pub left_in : unsigned_abs k ≤ left
  pub right_in : Near right a
  pub left_fits : left < 2 ^ 63
  pub right_fits : right < 2 ^ 63
  pub fits : left * right < 2 ^ 63
