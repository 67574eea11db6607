-- How large what is computed from pairs of corners gets.
use Rattle.std.proofs.Common.{◌≡◌, ℕ, ◌^◌, zero, suc, ◌≤◌, List, [], ◌∷◌, length, get_or, ℤ, pos, negsuc, ◌*ℤ◌, neg_ℤ, nat_abs, ◌<ℤ◌, sym, refl, ap, ap₂, subst, arith, leb→le, w64, to_z, of_z}
use Rattle.std.proofs.lemmas.Int.{ints}
use Rattle.std.specs.List.{ContainsAt as Has, AllByRecursion}
use Rattle.std.proofs.ByRecursion.{all-has}
use Rattle.integers.specs.Points.{Pt, ◌+ᵛ◌, ◌-ᵛ◌, ◌·ᵛ◌, dot, cross, det}
use Rattle.integers.specs.Space.{Near}
use Rattle.integers.proofs.Solver.{var, neg, ◌⊗◌}
use Rattle.integers.proofs.Vectors.{P₀, P₁, P₂, ◌⊖ᵛ◌, dot_e, cross_e}
use Rattle.integers.proofs.Overflow.{Bv, kept_is}
use Rattle.integers.proofs.Environments.{num, point}
use Rattle.convex.specs.Fractions.{◌÷◌}
use Rattle.convex.specs.Simplices.{normal, volume, sign, weights, footing, Independent}
use Rattle.convex.proofs.Simplices.{normal_e}
use Rattle.convex.proofs.Sizes as sizes
use Rattle.convex.proofs.Sizes.{sized, size_by, near_by}
use Rattle.exact.specs.Spots.{spot}
use Rattle.nearest.specs.declared.pair.Pair.{Pair}
use Rattle.nearest.specs.declared.carrier.Carrier.{Carrier}
use Rattle.nearest.specs.Room.{Room}
use Rattle.nearest.specs.Vectors.{to}
use Rattle.nearest.specs.Pairs.{between, betweens}
use Rattle.nearest.specs.declared.simplex.Simplex.{Simplex}
use Rattle.nearest.specs.declared.simplex.Simplex.TheVariants.{One, Two, Three, Four}
use Rattle.nearest.specs.Simplices.{pairs, points}
use Rattle.nearest.specs.Shapes.{carried}
use Rattle.nearest.proofs.Rooms.{roomy, wide_by}

pub length-betweens : (vs : List Pair) → length (betweens vs) ≡ length vs
length-betweens [] = refl
length-betweens (v ∷ vs) = omega (arith, length-betweens vs)

pub near-between : (v : Pair) → Near 28 (between v)
near-between v = sizes.near-between (spot v.first) (spot v.second) v.first.near v.second.near

pub all_near : (vs : List Pair) → AllByRecursion (Near 28) (betweens vs)
all_near [] = tt
all_near (v ∷ vs) = (near-between v, all_near vs)

-- so what the code computes of them has room for products, and for a sum
pub room_of : (a b : Pair) {p q : Pt} → p ≡ between a → q ≡ between b → Room p q
room_of a b e f = roomy 28 28 (near_by e (near-between a)) (near_by f (near-between b)) tt tt tt

pub wide_of : (a : Pair) {p : Pt} → p ≡ between a → Near (2 ^ 60) p
wide_of a e = wide_by e (near-between a) tt

-- ---- of two pairs
module _ (a b : Pair) where
  pub near_edge : Near 56 (between b -ᵛ between a)
  near_edge = sizes.near_edge (between a) (between b) (near-between a) (near-between b)

  pub near-cross : Near 1568 (cross (between a) (between b))
  near-cross = sizes.near-cross (between a) (between b) (near-between a) (near-between b)

  pub size_edge_first : nat_abs (dot (between a) (between b -ᵛ between a)) ≤ 4704
  size_edge_first = sizes.size_edge_first (between a) (between b) (near-between a) (near-between b)

  pub size_edge_second : nat_abs (dot (between b) (between b -ᵛ between a)) ≤ 4704
  size_edge_second = sizes.size_edge_second (between a) (between b) (near-between a) (near-between b)

  pub near_first : Near 131712 (dot (between b) (between b -ᵛ between a) ·ᵛ between a)
  near_first = sizes.near_first (between a) (between b) (near-between a) (near-between b)

  pub near-second : Near 131712 (dot (between a) (between b -ᵛ between a) ·ᵛ between b)
  near-second = sizes.near-second (between a) (between b) (near-between a) (near-between b)

-- ---- of three and four
module _ (a b c : Pair) where
  pub near_crosses : Near 3136 (cross (between a) (between b) +ᵛ cross (between b) (between c))
  near_crosses = sizes.near_crosses (between a) (between b) (between c) (near-between a) (near-between b) (near-between c)

  pub near-normal : Near 4704 (normal (between a) (between b) (between c))
  near-normal = sizes.near-normal (between a) (between b) (between c) (near-between a) (near-between b) (near-between c)

  pub size_det : nat_abs (det (between a) (between b) (between c)) ≤ 131712
  size_det = sizes.size_det (between a) (between b) (between c) (near-between a) (near-between b) (near-between c)

  pub size_level : (d : Pair) → nat_abs (dot (normal (between a) (between b) (between c)) (between d)) ≤ 395136
  size_level d = sizes.size_level (between a) (between b) (between c) (near-between a) (near-between b) (near-between c) (between d) (near-between d)

  pub size_volume : (d : Pair) → nat_abs (volume (between a) (between b) (between c) (between d)) ≤ 526848
  size_volume d = sizes.size_volume (between a) (between b) (between c) (near-between a) (near-between b) (near-between c) (between d) (near-between d)

-- a determinant, before other numbers
abbrev pub a-det : (a b c : Pair) (k : ℤ) → k ≡ det (between a) (between b) (between c) → List Bv → List Bv
a-det a b c k e ρ = num k (size_by e (size_det a b c)) ρ

-- ---- of the weights
size_sign : (v : ℤ) → nat_abs (sign v) ≤ 1
size_sign (pos n) = leb→le _ _ tt
size_sign (negsuc n) = leb→le _ _ tt

-- each weight
size_weights : (S : List Pt) → AllByRecursion (Near 28) S → AllByRecursion (λ k. nat_abs k ≤ 22127616) (weights S)
size_weights [] h = tt
size_weights (a ∷ []) h = (leb→le _ _ tt, tt)
size_weights (a ∷ (b ∷ [])) h = let ρ = point a h.0 (point b h.1.0 []) in (sized ρ (dot_e P₁ (P₁ ⊖ᵛ P₀)) 22127616 tt, (sized ρ (neg (dot_e P₀ (P₁ ⊖ᵛ P₀))) 22127616 tt, tt))
size_weights (a ∷ (b ∷ (c ∷ []))) h =
    let ρ = point a h.0 (point b h.1.0 (point c h.1.1.0 [])) in let n = normal_e P₀ P₁ P₂ in
    (sized ρ (dot_e n (cross_e P₁ P₂)) 22127616 tt, (sized ρ (dot_e n (cross_e P₂ P₀)) 22127616 tt, (sized ρ (dot_e n (cross_e P₀ P₁)) 22127616 tt, tt)))
size_weights (a ∷ (b ∷ (c ∷ (d ∷ [])))) h =
    let (ha, (hb, (hc, (hd, _)))) = h in
    ((part b c d hb hc hd).0, ((part a c d ha hc hd).1, ((part a b d ha hb hd).0, ((part a b c ha hb hc).1, tt))))
  where
    part : (p q r : Pt) → Near 28 p → Near 28 q → Near 28 r → let k = sign (volume a b c d) *ℤ det p q r in (nat_abs k ≤ 22127616) × (nat_abs (neg_ℤ k) ≤ 22127616)
    part p q r hp hq hr =
        let ρ = num (sign (volume a b c d)) (size_sign (volume a b c d)) (num (det p q r) (sizes.size_det p q r hp hq hr) []) in
        (sized ρ (var 0 ⊗ var 1) 22127616 tt, sized ρ (neg (var 0 ⊗ var 1)) 22127616 tt)
size_weights (a ∷ (b ∷ (c ∷ (d ∷ (e ∷ S))))) h = tt

-- so each is kept as it is
size_at : (ks : List ℤ) (i : ℕ) → AllByRecursion (λ k. nat_abs k ≤ 22127616) ks → nat_abs (get_or ks i (pos 0)) ≤ 22127616
size_at [] i h = leb→le _ _ tt
size_at (k ∷ ks) zero h = h.0
size_at (k ∷ ks) (suc i) h = size_at ks i h.1

pub weight_kept : (vs : List Pair) (i : ℕ) {ws : List ℤ} → weights (betweens vs) ≡ ws → to_z w64 (of_z w64 (get_or ws i (pos 0))) ≡ get_or ws i (pos 0)
weight_kept vs i e = kept_is w64 (num _ (size_by (ap (λ ks. get_or ks i (pos 0)) (sym e)) (size_at (weights (betweens vs)) i (size_weights (betweens vs) (all_near vs)))) []) (var 0) tt

-- ---- of a carrier
-- the differences of a simplex are independent
pub independent : (s : Simplex) → Independent (points s)
independent (One a) = record { some = omega arith; few = omega arith; apart = omega (arith, ints) }
independent (Two s) = s.independent
independent (Three s) = s.independent
independent (Four s) = s.independent

module _ (c : Carrier) where
  -- what it carries is the foot of its simplex
  pub carried_is : carried c ≡ footing (points c.simplex)
  carried_is = ap₂ ◌÷◌ c.foot_is c.extent_is

  -- the extent is positive
  pub positive : pos 0 <ℤ c.extent
  positive = subst (λ w. pos 0 <ℤ w) (sym c.extent_is) (independent c.simplex).apart

  pub near-foot : Near 619573248 (to c.foot)
  near-foot = near_by c.foot_is (sizes.near-foot (points c.simplex) (all_near (pairs c.simplex)))

  pub size_extent : nat_abs c.extent ≤ 66382848
  size_extent = size_by c.extent_is (sizes.size_extent (points c.simplex) (all_near (pairs c.simplex)))

  -- D·w
  pub size_product : (w : Pt) → Near 28 w → nat_abs (dot (to c.foot) w) ≤ 52044152832
  size_product w h = size_by (ap (λ p. dot p w) c.foot_is) (sizes.size_product (points c.simplex) (all_near (pairs c.simplex)) w h)

  -- D·D
  pub size_square : nat_abs (dot (to c.foot) (to c.foot)) ≤ 1151613028911808512
  size_square = size_by (ap (λ p. dot p p) c.foot_is) (sizes.size_square (points c.simplex) (all_near (pairs c.simplex)))

  pub near_corner : (y : Pt) → Has (points c.simplex) y → Near 28 y
  near_corner y h = all-has (Near 28) (points c.simplex) y (all_near (pairs c.simplex)) h

  -- D·y, for a corner y of the simplex
  pub size_gap : (y : Pt) → Has (points c.simplex) y → nat_abs (dot (to c.foot) y) ≤ 17348050944
  size_gap y h = size_by (ap (λ p. dot p y) c.foot_is) (sizes.size_gap (points c.simplex) y (all_near (pairs c.simplex)) h)
