-- What the steps of the search answer, of the corners ps and qs of two bodies.
use Rattle.std.specs.Prelude.{List, pos, ◌<ℤ◌}
use Rattle.std.specs.List.{ContainsAt as Has, AllByRecursion}
use Rattle.integers.specs.Points.{Pt, ◌-ᵛ◌, origin}
use Rattle.convex.specs.Means.{Nearest}
use Rattle.convex.specs.Hulls.{Farthest}
use Rattle.convex.specs.Simplices.{weights}
use Rattle.exact.specs.Spots.{spot}
use Rattle.nearest.specs.declared.pair.Pair.{Pair}
use Rattle.nearest.specs.declared.carrier.Carrier.{Carrier}
use Rattle.nearest.specs.Simplices.{pairs, points}
use Rattle.nearest.specs.Shapes.{carried}

-- a corner of the first body and one of the second
pub record CornersOf (ps qs : List Pt) (v : Pair) : Type 0 where
  pub first : Has ps (spot v.first)
  pub second : Has qs (spot v.second)

-- corners whose difference has the least product with d
pub record Probed (d : Pt) (ps qs : List Pt) (v : Pair) : Type 0 where
  pub first : Farthest ps (origin -ᵛ d) (spot v.first)
  pub second : Farthest qs d (spot v.second)

-- c carries the nearest difference, by pairs of corners and positive weights
pub record Ended (ps qs : List Pt) (c : Carrier) : Type 0 where
  pub nearest : Nearest ps qs (carried c)
  pub corners : AllByRecursion (CornersOf ps qs) (pairs c.simplex)
  pub inside : AllByRecursion (λ k. pos 0 <ℤ k) (weights (points c.simplex))
