-- One turn of the search.
use Rattle.std.proofs.Common.{false, not, ◌&&◌, int_eq, rules, ◌≡◌, ◌<◌, ◌≤◌, List, [], ◌∷◌, ◌++◌, length, pos, negsuc, ◌*ℤ◌, ◌≤ℤ◌, ◌<ℤ◌, sym, refl, ap, subst, subst₂, arith, leb→le}
use Rattle.std.specs.List.{AllByRecursion}
use Rattle.std.proofs.ByRecursion.{All-weaker, all-has, All-push}
use Rattle.integers.specs.Points.{Pt, dot, origin}
use Rattle.integers.specs.Space.{Near}
use Rattle.convex.specs.Fractions.{Shorter}
use Rattle.convex.specs.Means.{Mean, Nearest}
use Rattle.convex.specs.Hulls.{Between, measure}
use Rattle.convex.specs.Simplices.{foot, extent, Independent, Carries}
use Rattle.convex.proofs.Stopping.{nearest_by_supports, nearest_stops, stopping_at_origin}
use Rattle.convex.proofs.Members.{difference_of_corners}
use Rattle.convex.proofs.Independent.{room, independent_push}
use Rattle.convex.proofs.Carriers.{carries-reached, carries_next}
use Rattle.convex.proofs.Measure.{measure_falls}
use Rattle.convex.proofs.Sizes.{wider, extent≤}
use Rattle.exact.specs.Spots.{spot}
use Rattle.nearest.specs.declared.pair.Pair.{Pair}
use Rattle.nearest.specs.declared.vectors.Vector.{Vector}
use Rattle.nearest.specs.declared.carrier.Carrier.{Carrier}
use Rattle.nearest.specs.Vectors.{to}
use Rattle.nearest.specs.Pairs.{between, betweens}
use Rattle.nearest.specs.Simplices.{pairs, points}
use Rattle.nearest.specs.Shapes.{carried, Carried}
use Rattle.nearest.specs.Searches.{CornersOf, Probed, Ended}
use Rattle.nearest.proofs.Pairs.{length-betweens, all_near, independent, carried_is, positive, near-foot}

-- with one more pair
betweens_push : (vs : List Pair) (w : Pair) → betweens (vs ++ w ∷ []) ≡ betweens vs ++ between w ∷ []
betweens_push [] w = refl
betweens_push (v ∷ vs) w = ap (λ t. between v ∷ t) (betweens_push vs w)

-- ---- a pair on the near side
module _ (c : Carrier) (w : Pair) (l : (c.extent *ℤ dot (to c.foot) (between w)) <ℤ dot (to c.foot) (to c.foot)) where
  near-side : let S = points c.simplex in (extent S *ℤ dot (foot S) (between w)) <ℤ dot (foot S) (foot S)
  near-side = subst (λ x. (x.over *ℤ dot x.point (between w)) <ℤ dot x.point x.point) (carried_is c) l

  -- there is room for it
  pub fits : length (pairs c.simplex) ≤ 3
  fits = omega (arith, length-betweens (pairs c.simplex), room (points c.simplex) (between w) (independent c.simplex).few near-side)

  -- and it is independent of the others
  pub apart : Independent (betweens (pairs c.simplex ++ w ∷ []))
  apart = subst (λ t. Independent t) (sym (betweens_push (pairs c.simplex) w)) (independent_push (points c.simplex) (between w) (independent c.simplex) near-side)

-- ---- the turns
-- what holds at the start of each turn
pub record Held (ps qs : List Pt) (c : Carrier) : Type 0 where
  pub vs : List Pair
  pub carried : Carried vs c
  pub corners : AllByRecursion (CornersOf ps qs) (pairs c.simplex)

-- pairs of corners have differences of corners
all-between : (ps qs : List Pt) (vs : List Pair) → AllByRecursion (CornersOf ps qs) vs → AllByRecursion (Between ps qs) (betweens vs)
all-between ps qs [] h = tt
all-between ps qs (v ∷ vs) h = (record { a = spot v.first; b = spot v.second; in_a = h.0.first; in_b = h.0.second; is = refl }, all-between ps qs vs h.1)

-- where the search looks first
abbrev pub back : Pt
back = record { x = negsuc 0; y = pos 0; z = pos 0 }

-- the pair of a probe
pub probed-corners : {d : Pt} {ps qs : List Pt} {w : Pair} → Probed d ps qs w → CornersOf ps qs w
probed-corners p = record { first = p.first.one; second = p.second.one }

-- the first turn
pub held_first : {d : Pt} (ps qs : List Pt) (w : Pair) (c : Carrier) → Probed d ps qs w → Carried (w ∷ []) c → Held ps qs c
held_first ps qs w c p t = record { vs = w ∷ []; carried = t; corners = All-weaker _ _ (λ x i. all-has (CornersOf ps qs) (w ∷ []) x (probed-corners p, tt) i) (pairs c.simplex) t.among }

-- a test by coordinates
pub at_origin : (v : Vector) → false ≡ not (int_eq v.x (pos 0) && (int_eq v.y (pos 0) && int_eq v.z (pos 0))) → to v ≡ origin
at_origin v h = search rules

-- a foot may be asked for
pub foot_near : (c : Carrier) → Near 1000000000 (to c.foot)
foot_near c = wider 1000000000 (to c.foot) (leb→le _ _ tt) (near-foot c)

module _ {ps qs : List Pt} {c : Carrier} (h : Held ps qs c) where
  -- the carried point is a mean of the points
  mean : Mean (points c.simplex) (carried c)
  mean = subst (λ x. Mean (points c.simplex) x) (sym (carried_is c)) (carries-reached h.carried.carries)

  found : Nearest ps qs (carried c) → Ended ps qs c
  found n = record { nearest = n; corners = h.corners; inside = h.carried.carries.inside }

  -- no corners on the near side
  pub stop : (w : Pair) → Probed (to c.foot) ps qs w → dot (to c.foot) (to c.foot) ≤ℤ (c.extent *ℤ dot (to c.foot) (between w)) → Ended ps qs c
  stop w p k = found (nearest_by_supports ps qs (carried c) (spot w.first) (spot w.second) (all-between ps qs (pairs c.simplex) h.corners) mean p.first p.second k)

  -- the bodies meet
  pub meet : to c.foot ≡ origin → Ended ps qs c
  meet e = found (nearest_stops ps qs (carried c) (stopping_at_origin ps qs (carried c) e) (difference_of_corners ps qs (all-between ps qs (pairs c.simplex) h.corners) mean))

  -- the next carrier
  pub again : (w : Pair) (r : Carrier) → CornersOf ps qs w → Carried (pairs c.simplex ++ w ∷ []) r → Held ps qs r
  again w r k t = record { vs = pairs c.simplex ++ w ∷ []; carried = t; corners = All-weaker _ _ (λ x i. all-has (CornersOf ps qs) (pairs c.simplex ++ w ∷ []) x (All-push (CornersOf ps qs) (pairs c.simplex) w h.corners k) i) (pairs r.simplex) t.among }

  -- its measure falls
  module _ (w : Pair) (l : (c.extent *ℤ dot (to c.foot) (between w)) <ℤ dot (to c.foot) (to c.foot)) where
    pub falls : (r : Carrier) → Carried (pairs c.simplex ++ w ∷ []) r → measure 66382848 (carried r) < measure 66382848 (carried c)
    falls r t = measure_falls 66382848 (carried r) (carried c) (positive r) (positive c) (below r) (below c) shorter
      where
        below : (d : Carrier) → d.extent ≤ℤ pos 66382848
        below d = subst (λ x. x ≤ℤ pos 66382848) (sym d.extent_is) (extent≤ (points d.simplex) (all_near (pairs d.simplex)))

        shorter : Shorter (carried r) (carried c)
        shorter = subst₂ Shorter (sym (carried_is r)) (sym (carried_is c)) (carries_next (between w) h.carried.carries (near-side c w l) (subst (λ u. Carries (points r.simplex) u) (betweens_push (pairs c.simplex) w) t.carries))
