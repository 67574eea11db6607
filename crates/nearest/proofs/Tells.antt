-- What is reported of the simplex at which the search ended, of the two bodies.
use Rattle.std.proofs.Common.{◌≡◌, ℕ, ◌-◌, ◌<◌, ◌≤◌, T, List, [], ◌∷◌, length, get_or, ℤ, pos, negsuc, ◌*ℤ◌, nat_abs, ◌≤ℤ◌, ◌<ℤ◌, sym, refl, ap, ◌∙◌, subst, ap₂, zero-le, mul-le-mul_right, one-mul, arith, w64, Fits, to_z, of_z}
use native.Mathlib.Bridge.{le_prop}
use lib.Signed.{non_neg}
use Rattle.std.specs.List.{ContainsAt as Has, AllByRecursion}
use Rattle.std.proofs.lemmas.Int.{ints}
use Rattle.integers.specs.Points.{Pt, ◌·ᵛ◌}
use Rattle.integers.specs.Space.{Near}
use Rattle.integers.specs.Divisors.{Reduced}
use Rattle.integers.proofs.Solver.{var}
use Rattle.integers.proofs.Overflow.{kept_is}
use Rattle.integers.proofs.Environments.{num}
use Rattle.integers.proofs.Divisors.{abs_product}
use Rattle.convex.specs.Fractions.{Frac, ◌÷◌, Same}
use Rattle.convex.specs.Hulls.{comb, totalℤ}
use Rattle.convex.specs.Simplices.{weights, Independent}
use Rattle.convex.proofs.Fractions.{square-same}
use Rattle.convex.proofs.Lowest.{same_of_reduced, same-reduced, nearest-reduced, bottom_reduced, square-reduced, nearest_unique_lowest, square_unique_lowest}
use Rattle.convex.proofs.Simplices.{foot_laws}
use Rattle.convex.proofs.Stopping.{stopping_of_nearest}
use Rattle.exact.specs.Spots.{Corner, spot}
use Rattle.exact.specs.Space.{at}
use Rattle.nearest.specs.declared.pair.Pair.{Pair}
use Rattle.nearest.specs.declared.carrier.Carrier.{Carrier}
use Rattle.nearest.specs.declared.measurement.Witness.{Witness}
use Rattle.nearest.specs.declared.measurement.Measurement.{Measurement}
use Rattle.nearest.specs.Pairs.{between, betweens}
use Rattle.nearest.specs.Simplices.{pairs, points}
use Rattle.nearest.specs.Shapes.{carried}
use Rattle.nearest.specs.Searches.{CornersOf, Ended}
use Rattle.nearest.specs.Measurements.{reported, differences, weights_of, nowhere, blank, Witnessed, Reports, Agrees, Answers}
use Rattle.nearest.specs.Reports.{listed, Told}
use Rattle.nearest.proofs.Pairs.{length-betweens, independent, carried_is, positive, near-foot, size_extent}

-- ---- the numbers
-- a number that is not negative, cast to an unsigned one
pub cast_fits : (x y : ℤ) → x ≡ y → pos 0 ≤ℤ y → nat_abs y ≤ 17348050944 → T (non_neg x) × Fits w64 (nat_abs x)
cast_fits (pos n) y e p l = (tt, omega (arith, ints))
cast_fits (negsuc n) y e p l = absurd (omega (arith, ints))

pub cast_is : (x y : ℤ) → x ≡ y → pos 0 ≤ℤ y → pos (nat_abs x) ≡ y
cast_is x y e p = omega (arith, ints)

-- the extent, as the code holds it
pub extent-kept : (c : Carrier) → to_z w64 (of_z w64 c.extent) ≡ c.extent
extent-kept c = kept_is w64 (num c.extent (size_extent c) []) (var 0) tt

-- the bounds of a gap
pub gap_bounds : (k w x y : ℤ) → k ≡ x → w ≡ y → nat_abs x ≤ 17348050944 → pos 0 <ℤ y → nat_abs y ≤ 66382848 → (nat_abs k ≤ 18000000000) × (0 < nat_abs w) × (nat_abs w ≤ 120000000)
gap_bounds k w x y e f l p m = (subst (λ t. nat_abs t ≤ 18000000000) (sym e) (omega arith), subst (λ t. 0 < nat_abs t) (sym f) (omega (arith, ints)), subst (λ t. nat_abs t ≤ 120000000) (sym f) (omega arith))

-- ---- blank witnesses
-- there is one corner at the origin
at_nowhere : (h : Near 14 (record { x = pos 0; y = pos 0; z = pos 0 })) → ◌≡◌ {A = Corner} (record { x = pos 0; y = pos 0; z = pos 0; near = h }) nowhere
at_nowhere h = λ i. record { x = pos 0; y = pos 0; z = pos 0; near = (le_prop h.0 zero-le i, le_prop h.1 zero-le i, le_prop h.2 zero-le i) }

pub blank_is : (h k : Near 14 (record { x = pos 0; y = pos 0; z = pos 0 })) → ◌≡◌ {A = Witness} (record { first = record { x = pos 0; y = pos 0; z = pos 0; near = h }; second = record { x = pos 0; y = pos 0; z = pos 0; near = k }; weight = pos 0 }) blank
blank_is h k = ap₂ (λ a b. record { first = a; second = b; weight = pos 0 }) (at_nowhere h) (at_nowhere k)

-- ---- pairs with their weights
listed-differences : (vs : List Pair) (ks : List ℤ) → length ks ≡ length vs → differences (listed vs ks) ≡ betweens vs
listed-differences [] ks e = refl
listed-differences (v ∷ vs) [] e = absurd (omega arith)
listed-differences (v ∷ vs) (k ∷ ks) e = ap (λ t. between v ∷ t) (listed-differences vs ks (omega arith))

listed-weights : (vs : List Pair) (ks : List ℤ) → length ks ≡ length vs → weights_of (listed vs ks) ≡ ks
listed-weights [] [] e = refl
listed-weights [] (k ∷ ks) e = absurd (omega arith)
listed-weights (v ∷ vs) [] e = absurd (omega arith)
listed-weights (v ∷ vs) (k ∷ ks) e = ap (λ t. k ∷ t) (listed-weights vs ks (omega arith))

listed-corners : (ps qs : List Pt) (vs : List Pair) (ks : List ℤ) → AllByRecursion (CornersOf ps qs) vs → AllByRecursion (λ v. Has ps (spot v.first) × Has qs (spot v.second)) (listed vs ks)
listed-corners ps qs [] ks h = tt
listed-corners ps qs (v ∷ vs) [] h = tt
listed-corners ps qs (v ∷ vs) (k ∷ ks) h = ((h.0.first, h.0.second), listed-corners ps qs vs ks h.1)

listed-weighty : (vs : List Pair) (ks : List ℤ) → AllByRecursion (λ k. pos 0 <ℤ k) ks → AllByRecursion (λ v. pos 0 <ℤ v.weight) (listed vs ks)
listed-weighty [] ks h = tt
listed-weighty (v ∷ vs) [] h = tt
listed-weighty (v ∷ vs) (k ∷ ks) h = (h.0, listed-weighty vs ks h.1)

-- ---- the report
-- a common factor taken out leaves no larger number
factor_small : (f : ℕ) (n m : ℤ) → 0 < f → n ≡ pos f *ℤ m → nat_abs m ≤ nat_abs n
factor_small f n m h e = omega (arith, ap nat_abs e ∙ abs_product (pos f) m, mul-le-mul_right (nat_abs m) h, one-mul (nat_abs m))

reduced_small : {a b c w d e f v : ℤ} → Reduced (a ∷ b ∷ c ∷ w ∷ []) (d ∷ e ∷ f ∷ v ∷ []) → (nat_abs d ≤ nat_abs a) × (nat_abs e ≤ nat_abs b) × (nat_abs f ≤ nat_abs c) × (nat_abs v ≤ nat_abs w)
reduced_small {a} {b} {c} {w} {d} {e} {f} {v} r =
    let k = r.factor in let p = r.positive in
    (factor_small k a d p (ap (λ l. get_or l 0 (pos 0)) r.scaled), factor_small k b e p (ap (λ l. get_or l 1 (pos 0)) r.scaled), factor_small k c f p (ap (λ l. get_or l 2 (pos 0)) r.scaled), factor_small k w v p (ap (λ l. get_or l 3 (pos 0)) r.scaled))

-- two reports of the same bodies agree
pub agrees : {ps qs : List Pt} (m n : Measurement) → Reports ps qs m → Reports ps qs n → Agrees m n
agrees m n h k =
    let same = nearest_unique_lowest (reported m) (reported n) h.nearest k.nearest h.lowest k.lowest in
    let squares = square_unique_lowest (reported m) (reported n) (pos m.gap.p) (pos m.gap.q) (pos n.gap.p) (pos n.gap.q) h.nearest k.nearest (above' m.gap.q h.over) (above' n.gap.q k.over) h.square k.square h.reduced k.reduced in
    record { d_is = ap (λ (x : Frac). x.point) same; w_is = ap (λ (x : Frac). x.over) same; p_is = ap nat_abs squares.0; q_is = ap nat_abs squares.1 }
  where
    above' : (n : ℕ) → 0 < n → pos 0 <ℤ pos n
    above' n l = omega (arith, ints)

module _ (ps qs : List Pt) (c : Carrier) (m : Measurement) (e : Ended ps qs c) (t : Told c m) where
  abbrev S : List Pt
  S = points c.simplex

  whole : Independent S
  whole = independent c.simplex

  abbrev used : List Witness
  used = listed (pairs c.simplex) (weights S)

  one_each : length (weights S) ≡ length (pairs c.simplex)
  one_each = (foot_laws S whole.some whole.few).one_each ∙ length-betweens (pairs c.simplex)

  -- the foot is the mean of the points by the weights
  mean_is : Same (carried c) (comb (weights S) S ÷ totalℤ (weights S))
  mean_is = let f = foot_laws S whole.some whole.few in subst (λ x. Same x (comb (weights S) S ÷ totalℤ (weights S))) (sym (carried_is c)) (ap₂ ◌·ᵛ◌ (sym f.whole) f.sum)

  witnessed : Witnessed ps qs m
  witnessed = record {
    used = used;
    spare = 4 - length used;
    all = t.witnesses;
    corners = listed-corners ps qs (pairs c.simplex) (weights S) e.corners;
    weighty = listed-weighty (pairs c.simplex) (weights S) e.inside;
    independent = subst (λ x. Independent x) (sym (listed-differences (pairs c.simplex) (weights S) one_each)) whole;
    mean = subst (λ ks. Same (reported m) (comb ks (differences used) ÷ totalℤ ks)) (sym (listed-weights (pairs c.simplex) (weights S) one_each)) (subst (λ ys. Same (reported m) (comb (weights S) ys ÷ totalℤ (weights S))) (sym (listed-differences (pairs c.simplex) (weights S) one_each)) (same-reduced (carried c) (reported m) t.fraction (comb (weights S) S ÷ totalℤ (weights S)) (positive c) mean_is));
  }

  -- lowest terms are no larger than the foot and the extent
  small : Near 830000000 (at m.difference.point) × (nat_abs m.difference.over ≤ 120000000)
  small =
      let near = near-foot c in
      let (x, y, z, w) = reduced_small t.fraction in
      ((omega (arith, x, near.0), omega (arith, y, near.1), omega (arith, z, near.2)), omega (arith, w, size_extent c))

  pub reports : Reports ps qs m
  reports =
      let n = nearest-reduced (carried c) (reported m) t.fraction e.nearest in
      record {
        nearest = n;
        lowest = t.fraction.coprime;
        square = square-reduced t.ratio (reported m) (square-same (carried c) (reported m) t.gap c.extent (positive c) (same_of_reduced (carried c) (reported m) t.fraction) t.square);
        over = above (bottom_reduced t.ratio (positive c));
        reduced = t.ratio.coprime;
        d_small = small.0;
        w_small = small.1;
        stopping = stopping_of_nearest (reported m) n;
        witnessed = witnessed;
      }
    where
      above : {n : ℕ} → pos 0 <ℤ pos n → 0 < n
      above h = omega (arith, ints)

  pub answers : Answers ps qs m
  answers = record { reports = reports; only = λ n h. agrees n m h reports }
