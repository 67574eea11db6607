-- A mean of some of the points, with repetitions, is a mean of the points; and a mean of differences of corners is a difference of means.
use Rattle.std.proofs.Common.{◌≡◌, ℕ, suc, List, [], ◌∷◌, length, ℤ, pos, ◌+ℤ◌, ◌*ℤ◌, ◌<ℤ◌, refl, ap, ◌∙◌, ap₂, arith}
use Rattle.std.specs.List.{ContainsAt as Has, AllByRecursion}
use Rattle.std.proofs.ByRecursion.{all_has_itself}
use Rattle.std.proofs.lemmas.Int.{ints}
use Rattle.integers.specs.Points.{Pt, ◌+ᵛ◌, ◌-ᵛ◌, ◌·ᵛ◌, origin}
use Rattle.integers.proofs.Solver.{var, con, neg, ◌⊗◌}
use Rattle.integers.proofs.Vectors.{◌⊕ᵛ◌, ◌⊖ᵛ◌, ◌⊗ᵛ◌, origin_e, pt, pts, solve_v}
use Rattle.integers.proofs.VectorCerts.{by_eq_v, prove_v, ·ᵛ_cancel}
use Rattle.integers.proofs.Order.{*ℤ_pos}
use Rattle.convex.specs.Fractions.{Frac, ◌÷◌, Same, ◌less◌}
use Rattle.convex.specs.Means.{sum_of, total, Mean, Difference}
use Rattle.convex.specs.Hulls.{comb, totalℤ, Between, without}
use Rattle.convex.proofs.Combs.{Nonneg, bump, length_bump, nonneg_bump, total_bump, comb_bump, zeros, length_zeros, nonneg_zeros, total_zeros, comb_zeros, all_without}
use Rattle.convex.proofs.Hulls.{weighed, mean→hull, hull→mean, mean-weighed}

-- ---- means of some of the points
-- weights of ys that come to what ks come to on xs
record Spread (ys : List Pt) (ks : List ℤ) (xs : List Pt) : Type 0 where
  js : List ℤ
  one_each : length js ≡ length ys
  nonneg : Nonneg js
  whole : totalℤ js ≡ totalℤ ks
  sum : comb js ys ≡ comb ks xs

-- each weight is added at the point's place among ys
spread : (ys : List Pt) (ks : List ℤ) (xs : List Pt) → length ks ≡ length xs → Nonneg ks → AllByRecursion (Has ys) xs → Spread ys ks xs
spread ys [] xs e n h = record { js = zeros ys; one_each = length_zeros ys; nonneg = nonneg_zeros ys; whole = total_zeros ys; sum = comb_zeros ys }
spread ys (k ∷ ks) [] e n h = absurd (omega arith)
spread ys (k ∷ ks) (x ∷ xs) e n h = more (spread ys ks xs (omega arith) n.1 h.1)
  where
    more : Spread ys ks xs → Spread ys (k ∷ ks) (x ∷ xs)
    more s =
        let i = h.0.0 in
        record {
          js = bump i k s.js;
          one_each = length_bump i k s.js ∙ s.one_each;
          nonneg = nonneg_bump i k s.js n.0 s.nonneg;
          whole = total_bump i k s.js (rw s.one_each h.0.1) ∙ ap (λ t. k +ℤ t) s.whole;
          sum = comb_bump i k s.js ys h.0.1 s.one_each ∙ ap₂ (λ p q. k ·ᵛ p +ᵛ q) (h.0.2 origin) s.sum;
        }

-- a mean of points that are all among ys
pub mean-among : {ys xs : List Pt} {x : Frac} → AllByRecursion (Has ys) xs → Mean xs x → Mean ys x
mean-among {ys} {xs} h m =
    let g = mean→hull m in let s = spread ys g.ks xs g.one_each g.nonneg h in
    hull→mean (record { ks = s.js; one_each = s.one_each; nonneg = s.nonneg; some = rw s.whole g.some; positive = g.positive; value = rw (s.whole, s.sum) g.value })

-- a mean of a face
pub mean-without : {ys : List Pt} {x : Frac} (i : ℕ) → Mean (without i ys) x → Mean ys x
mean-without {ys} i m = mean-among (all_without (Has ys) i ys (all_has_itself ys)) m

-- each point is a mean
pub mean_corner : {ys : List Pt} {w : Pt} → Has ys w → Mean ys (w ÷ pos 1)
mean_corner {ys} {w} h = mean-among {xs = w ∷ []} (h, tt) (hull→mean (record {
  ks = pos 1 ∷ [];
  one_each = refl;
  nonneg = (omega (arith, ints), tt);
  some = omega (arith, ints);
  positive = omega (arith, ints);
  value = solve_v (pts (w ∷ []) []) (con (pos 1) ⊗ᵛ pt 0) (con (pos 1) ⊗ᵛ (con (pos 1) ⊗ᵛ pt 0 ⊕ᵛ origin_e)) refl refl refl;
}))

-- ---- differences
-- a mean of A less a mean of B
pub difference_of_means : {A B : List Pt} {x y : Frac} (z : Frac) → Mean A x → Mean B y → pos 0 <ℤ z.over → Same z (x less y) → Difference A B z
difference_of_means {A} {B} {x} {y} z m n h e =
    let s = pos (total m.by.each) in let t = pos (total n.by.each) in
    let X = pt 0 in let Y = pt 1 in let Z = pt 2 in let u = pt 3 in let v = pt 4 in let P = var 15 in let Q = var 16 in let D = var 17 in let S = var 18 in let T = var 19 in
    record {
      left = m.by;
      right = n.by;
      positive = h;
      value = ·ᵛ_cancel (x.over *ℤ y.over) (*ℤ_pos m.positive n.positive) (prove_v (pts (x.point ∷ y.point ∷ z.point ∷ sum_of m.by.each A ∷ sum_of n.by.each B ∷ []) (x.over ∷ y.over ∷ z.over ∷ s ∷ t ∷ []))
          ((P ⊗ Q) ⊗ᵛ ((S ⊗ T) ⊗ᵛ Z)) ((P ⊗ Q) ⊗ᵛ (D ⊗ᵛ (T ⊗ᵛ u ⊖ᵛ S ⊗ᵛ v)))
          (by_eq_v (S ⊗ T) ((P ⊗ Q) ⊗ᵛ Z) (D ⊗ᵛ (Q ⊗ᵛ X ⊖ᵛ P ⊗ᵛ Y)) e ∷ by_eq_v (T ⊗ D ⊗ Q) (S ⊗ᵛ X) (P ⊗ᵛ u) m.value ∷ by_eq_v (neg (S ⊗ D ⊗ P)) (T ⊗ᵛ Y) (Q ⊗ᵛ v) n.value ∷ []) refl refl refl);
    }

-- the corners that ys are differences of
record Sides (A B ys : List Pt) : Type 0 where
  tops : List Pt
  bottoms : List Pt
  in_a : AllByRecursion (Has A) tops
  in_b : AllByRecursion (Has B) bottoms
  many_a : length ys ≡ length tops
  many_b : length ys ≡ length bottoms
  sum : (ks : List ℤ) → comb ks ys ≡ comb ks tops -ᵛ comb ks bottoms

-- they are gathered point by point
sides : {A B : List Pt} (ys : List Pt) → AllByRecursion (Between A B) ys → Sides A B ys
sides [] h = record { tops = []; bottoms = []; in_a = tt; in_b = tt; many_a = refl; many_b = refl; sum = elim [ [] ↦ refl | k ∷ ks ↦ refl ] }
sides {A} {B} (y ∷ ys) h = more (sides ys h.1)
  where
    more : Sides A B ys → Sides A B (y ∷ ys)
    more s = record { tops = h.0.a ∷ s.tops; bottoms = h.0.b ∷ s.bottoms; in_a = (h.0.in_a, s.in_a); in_b = (h.0.in_b, s.in_b); many_a = ap suc s.many_a; many_b = ap suc s.many_b; sum = summed }
      where
        summed : (ks : List ℤ) → comb ks (y ∷ ys) ≡ comb ks (h.0.a ∷ s.tops) -ᵛ comb ks (h.0.b ∷ s.bottoms)
        summed [] = refl
        summed (k ∷ ks) =
            ap₂ (λ p q. k ·ᵛ p +ᵛ q) h.0.is (s.sum ks) ∙
            solve_v (pts (h.0.a ∷ h.0.b ∷ comb ks s.tops ∷ comb ks s.bottoms ∷ []) (k ∷ [])) (var 12 ⊗ᵛ (pt 0 ⊖ᵛ pt 1) ⊕ᵛ (pt 2 ⊖ᵛ pt 3)) ((var 12 ⊗ᵛ pt 0 ⊕ᵛ pt 2) ⊖ᵛ (var 12 ⊗ᵛ pt 1 ⊕ᵛ pt 3)) refl refl refl

-- a mean of differences of corners
pub difference_of_corners : (A B : List Pt) {ys : List Pt} {x : Frac} → AllByRecursion (Between A B) ys → Mean ys x → Difference A B x
difference_of_corners A B {ys} {x} h m =
    let g = mean→hull m in let s = sides ys h in let ks = g.ks in let N = pt 0 in let T = var 9 in let d = var 10 in
    difference_of_means {x = weighed ks s.tops} {y = weighed ks s.bottoms} x (mean-among s.in_a (mean-weighed ks (g.one_each ∙ s.many_a) g.nonneg g.some)) (mean-among s.in_b (mean-weighed ks (g.one_each ∙ s.many_b) g.nonneg g.some)) m.positive
    (prove_v (pts (x.point ∷ comb ks s.tops ∷ comb ks s.bottoms ∷ []) (totalℤ ks ∷ x.over ∷ [])) ((T ⊗ T) ⊗ᵛ N) (d ⊗ᵛ (T ⊗ᵛ pt 1 ⊖ᵛ T ⊗ᵛ pt 2)) (by_eq_v T (T ⊗ᵛ N) (d ⊗ᵛ (pt 1 ⊖ᵛ pt 2)) (g.value ∙ ap (λ t. x.over ·ᵛ t) (s.sum ks)) ∷ []) refl refl refl)
