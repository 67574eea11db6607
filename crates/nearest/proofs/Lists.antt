-- A body that is given by the list of its corners: the corner at the first best place is a farthest one.
use Rattle.std.proofs.Common.{◌≡◌, ℕ, true, List, map, get_or, ℤ, ◌≤ℤ◌, Some, sym, ap, subst, arith}
use lib.ListN.{length-map, get_or-map}
use lib.Signed.{le_z}
use Rattle.std.specs.List.{ContainsAt as Has}
use Rattle.std.proofs.ByRecursion.{has_get_or, All-from_get_or}
use Rattle.std.proofs.lemmas.Int.{ints}
use Rattle.integers.specs.Points.{Pt, dot}
use Rattle.convex.specs.Hulls.{Farthest}
use Rattle.search.specs.declared.Scored.{Scored}
use Rattle.exact.specs.Spots.{Corner, spot}
use Rattle.exact.specs.declared.scores.Product.{Product}
use Rattle.exact.specs.Finds as finds

no_larger : (x y z : ℤ) → y ≡ z → le_z x y ≡ true → x ≤ℤ z
no_larger x y z e h = omega (arith, ints)

pub farthest-placed : (cs : List Corner) (d : Pt) (s : Scored ℕ Product) (e : Corner) → finds.Farthest cs d (Some s) → Farthest (map spot cs) d (spot (get_or cs s.candidate e))
farthest-placed cs d s e h = record {
  one = subst (λ p. Has (map spot cs) p) (get_or-map spot cs s.candidate e) (has_get_or (map spot cs) s.candidate (spot e) (omega (arith, length-map cs spot, h.inside)));
  most = All-from_get_or _ (map spot cs) (spot e) (λ k l. subst (λ p. dot d p ≤ℤ dot d (spot (get_or cs s.candidate e))) (sym (get_or-map spot cs k e)) (no_larger _ s.score.0 _ (ap (λ t. t.0) (h.score_is e)) (h.best k e (omega (arith, length-map cs spot)))));
}
