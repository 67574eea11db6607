-- What is printed of points, fractions, gaps and errors, byte by byte.
use Rattle.std.specs.Prelude.{ℕ, List, ◌++◌, codes}
use Rattle.std.specs.Fmt.{decimal, signed_decimal}
use Rattle.exact.specs.declared.point.Point.{Point}
use Rattle.exact.specs.declared.fraction.Fraction.{Fraction}
use Rattle.exact.specs.declared.gap.Gap.{Gap}
use Rattle.exact.specs.declared.too_far.TooFar.{TooFar}

-- (x, y, z)
abbrev pub point_text : Point → List ℕ
point_text p = codes "(" ++ signed_decimal p.x ++ codes ", " ++ signed_decimal p.y ++ codes ", " ++ signed_decimal p.z ++ codes ")"

-- (x, y, z)/w
abbrev pub fraction_text : Fraction → List ℕ
fraction_text x = point_text x.point ++ codes "/" ++ signed_decimal x.over

-- p/q
abbrev pub gap_text : Gap → List ℕ
gap_text g = decimal g.p ++ codes "/" ++ decimal g.q

-- a corner lies beyond .. steps
abbrev pub too_far_text : TooFar → List ℕ
too_far_text e = codes "a corner lies beyond " ++ decimal e.reach ++ codes " steps"
