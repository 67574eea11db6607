-- What a measurement says of two bodies.
use Rattle.std.specs.Prelude.{◌≡◌, ℕ, ◌<◌, ◌≤◌, List, [], ◌∷◌, ◌++◌, map, replicate, ℤ, pos, ◌<ℤ◌, Result, unsigned_abs}
use Rattle.std.proofs.Common.{zero-le}
use Rattle.std.specs.List.{ContainsAt as Has, AllByRecursion}
use Rattle.refusals.specs.declared.Refusal.{Refusal}
use Rattle.integers.specs.Points.{Pt, ◌-ᵛ◌}
use Rattle.integers.specs.Space.{Near}
use Rattle.integers.specs.Divisors.{Coprime}
use Rattle.convex.specs.Fractions.{Frac, ◌÷◌, Same, SquareOf}
use Rattle.convex.specs.Means.{Nearest, StoppingTest}
use Rattle.convex.specs.Hulls.{comb, totalℤ}
use Rattle.convex.specs.Simplices.{Independent}
use Rattle.convex.specs.Lowest.{InLowestTerms}
use Rattle.exact.specs.Spots.{Corner, spot}
use Rattle.exact.specs.Space.{at}
use Rattle.nearest.specs.declared.measurement.Witness.{Witness}
use Rattle.nearest.specs.declared.measurement.Measurement.{Measurement}
use Rattle.nearest.specs.Bodies.{OfBoth}

-- D / W
abbrev pub reported : Measurement → Frac
reported m = at m.difference.point ÷ m.difference.over

-- the differences of the two corners of each witness, and their weights
abbrev pub differences : List Witness → List Pt
differences vs = map (λ v. spot v.first -ᵛ spot v.second) vs

abbrev pub weights_of : List Witness → List ℤ
weights_of vs = map (λ v. v.weight) vs

-- no witness: both corners at the origin, and the weight 0
abbrev pub nowhere : Corner
nowhere = record { x = pos 0; y = pos 0; z = pos 0; near = (zero-le, zero-le, zero-le) }

abbrev pub blank : Witness
blank = record { first = nowhere; second = nowhere; weight = pos 0 }

-- the witnesses of m, between bodies with the corners ps and qs
pub record Witnessed (ps qs : List Pt) (m : Measurement) : Type 0 where
  -- the first ones count, and all after them are blank
  pub used : List Witness
  pub spare : ℕ
  pub all : m.witnesses ≡ used ++ replicate spare blank
  -- each has a corner of the first body and one of the second
  pub corners : AllByRecursion (λ v. Has ps (spot v.first) × Has qs (spot v.second)) used
  -- each has a positive weight
  pub weighty : AllByRecursion (λ v. pos 0 <ℤ v.weight) used
  -- their differences are one to four affinely independent points
  pub independent : Independent (differences used)
  -- D / W is the mean of these differences by these weights
  pub mean : Same (reported m) (comb (weights_of used) (differences used) ÷ totalℤ (weights_of used))

-- what m says of bodies with the corners ps and qs
pub record Reports (ps qs : List Pt) (m : Measurement) : Type 0 where
  -- D / W is the nearest difference of weighted means, in lowest terms
  pub nearest : Nearest ps qs (reported m)
  pub lowest : InLowestTerms (reported m)
  -- p / q is the square of its length, in lowest terms
  pub square : SquareOf (reported m) (pos m.gap.p) (pos m.gap.q)
  pub over : 0 < m.gap.q
  pub reduced : Coprime (m.gap.p ∷ m.gap.q ∷ [])
  -- none of these numbers is large
  pub d_small : Near 830000000 (at m.difference.point)
  pub w_small : unsigned_abs m.difference.over ≤ 120000000
  -- no difference of corners lies on the near side of it
  pub stopping : StoppingTest ps qs (reported m)
  -- and it comes from these corners
  pub witnessed : Witnessed ps qs m

-- m and n say the same of the nearest difference and of the gap
pub record Agrees (m n : Measurement) : Type 0 where
  pub d_is : at m.difference.point ≡ at n.difference.point
  pub w_is : m.difference.over ≡ n.difference.over
  pub p_is : m.gap.p ≡ n.gap.p
  pub q_is : m.gap.q ≡ n.gap.q

-- m reports the two bodies, and whatever reports them agrees with m: only the witnesses are open
pub record Answers (ps qs : List Pt) (m : Measurement) : Type 0 where
  pub reports : Reports ps qs m
  pub only : (n : Measurement) → Reports ps qs n → Agrees n m

-- the answer, or the slip of a body that refuses: the first body's where both do
abbrev pub Measured : Result (List Pt) Refusal → Result (List Pt) Refusal → Result Measurement Refusal → Type 0
Measured first second r = OfBoth Answers first second r
