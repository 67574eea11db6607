-- The search: from two corners, round by round, to the nearest difference. It ends, since each round lessens the measure.
use Rattle.std.proofs.Common.{ℕ, zero, suc, ◌<◌, ◌⊎◌, List, [], ◌∷◌, ◌++◌, pos, ◌≤ℤ◌, refl, inl, inr, arith}
use lib.Signed.{≤ℤ_refl}
use Rattle.std.specs.List.{AllByRecursion}
use Rattle.std.proofs.ByRecursion.{All-weaker, all-has, has_get_or, has_append_right}
use Rattle.std.proofs.lemmas.Int.{ints, by_lt_z}
use Rattle.integers.specs.Points.{Pt, ◌-ᵛ◌, dot, origin}
use Rattle.integers.specs.Space.{Near}
use Rattle.integers.proofs.Order.{<ℤ→≤ℤ, ≤ℤ_trans}
use Rattle.convex.specs.Fractions.{Frac}
use Rattle.convex.specs.Means.{Nearest}
use Rattle.convex.specs.Hulls.{Between, Farthest, measure}
use Rattle.convex.specs.Simplices.{foot, extent, footing, Carries}
use Rattle.convex.proofs.Measure.{measure_falls}
use Rattle.convex.proofs.Carriers.{carries_itself, carrier}
use Rattle.convex.proofs.Rounds.{Next, round}
use Rattle.convex.proofs.Sizes.{near_by, near-between, extent≤}

-- a body has a farthest corner along each direction
pub farthest : (d p : Pt) (ps : List Pt) → (q : Pt) × Farthest (p ∷ ps) d q
farthest d p [] = (p, record { one = has_get_or (p ∷ []) 0 p (omega arith); most = (≤ℤ_refl _, tt) })
farthest d p (r ∷ ps) = more (farthest d r ps)
  where
    more : (q : Pt) × Farthest (r ∷ ps) d q → (q : Pt) × Farthest (p ∷ (r ∷ ps)) d q
    more (q, h) =
        by_lt_z (dot d q) (dot d p)
        (λ l. (p, record { one = has_get_or (p ∷ (r ∷ ps)) 0 p (omega arith); most = (≤ℤ_refl _, All-weaker _ _ (λ x k. ≤ℤ_trans k (<ℤ→≤ℤ l)) (r ∷ ps) h.most) }))
        (λ l. (q, record { one = has_append_right (p ∷ []) (r ∷ ps) q h.one; most = (l, h.most) }))

-- ---- where the simplices of differences of corners have a bounded extent, the search ends
module _ (M : ℕ) (a b : Pt) (A B : List Pt) (bounded : (S : List Pt) → AllByRecursion (Between (a ∷ A) (b ∷ B)) S → extent S ≤ℤ pos M) where
  -- from the simplex S on, in less than `most` rounds
  search : (most : ℕ) (S : List Pt) {ys : List Pt} → Carries S ys → AllByRecursion (Between (a ∷ A) (b ∷ B)) S → measure M (footing S) < most → (x : Frac) × Nearest (a ∷ A) (b ∷ B) x
  search zero S c h l = absurd (omega arith)
  search (suc f) S c h l =
      let (p, i) = farthest (origin -ᵛ foot S) a A in let (q, j) = farthest (foot S) b B in
      turn (p -ᵛ q) (round (a ∷ A) (b ∷ B) S p q c h i j) (λ T t k m. search f T t k m)
    where
      turn : (w : Pt) → Nearest (a ∷ A) (b ∷ B) (footing S) ⊎ Next (a ∷ A) (b ∷ B) S w → ((T : List Pt) → Carries T (S ++ w ∷ []) → AllByRecursion (Between (a ∷ A) (b ∷ B)) T → measure M (footing T) < f → (x : Frac) × Nearest (a ∷ A) (b ∷ B) x) → (x : Frac) × Nearest (a ∷ A) (b ∷ B) x
      turn w (inl n) on = (footing S, n)
      turn w (inr n) on =
          let (T, t) = carrier (S ++ w ∷ []) n.independent in let k = n.between T t in
          let less : measure M (footing T) < measure M (footing S) = measure_falls M (footing T) (footing S) t.independent.apart c.independent.apart (bounded T k) (bounded S h) (n.shorter T t) in
          on T t k (under less l)
        where
          under : {x y : ℕ} → x < y → y < suc f → x < f
          under p q = omega arith

  first : Between (a ∷ A) (b ∷ B) (a -ᵛ b)
  first = record { a = a; b = b; in_a = has_get_or (a ∷ A) 0 a (omega arith); in_b = has_get_or (b ∷ B) 0 b (omega arith); is = refl }

  search_ends : (x : Frac) × Nearest (a ∷ A) (b ∷ B) x
  search_ends = let S = (a -ᵛ b) ∷ [] in search (suc (measure M (footing S))) S (carries_itself S (record { some = omega arith; few = omega arith; apart = omega (arith, ints) }) (omega (arith, ints), tt)) (first, tt) (omega arith)

-- two bodies within ±14 have a nearest difference
pub nearest_exists : (a b : Pt) (A B : List Pt) → AllByRecursion (Near 14) (a ∷ A) → AllByRecursion (Near 14) (b ∷ B) → (x : Frac) × Nearest (a ∷ A) (b ∷ B) x
nearest_exists a b A B h k = search_ends 66382848 a b A B (λ S s. extent≤ S (All-weaker _ _ near S s))
  where
    near : (y : Pt) → Between (a ∷ A) (b ∷ B) y → Near 28 y
    near y s = near_by s.is (near-between s.a s.b (all-has (Near 14) (a ∷ A) s.a h s.in_a) (all-has (Near 14) (b ∷ B) s.b k s.in_b))
