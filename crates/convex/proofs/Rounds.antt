-- One round: from the carrier S of the nearest point so far, and the corners a and b that lie farthest on its near side.
use Rattle.std.proofs.Common.{◌≤◌, ◌⊎◌, List, [], ◌∷◌, ◌++◌, length, ◌*ℤ◌, refl, inl, inr}
use Rattle.std.specs.List.{AllByRecursion}
use Rattle.std.proofs.ByRecursion.{All-weaker, all-has, All-push}
use Rattle.std.proofs.lemmas.Int.{by_lt_z}
use Rattle.integers.specs.Points.{Pt, ◌-ᵛ◌, dot, origin}
use Rattle.convex.specs.Fractions.{Shorter}
use Rattle.convex.specs.Means.{Nearest}
use Rattle.convex.specs.Hulls.{Between, Farthest}
use Rattle.convex.specs.Simplices.{foot, extent, footing, Independent, Carries}
use Rattle.convex.proofs.Stopping.{nearest_by_supports}
use Rattle.convex.proofs.Independent.{room, independent_push}
use Rattle.convex.proofs.Carriers.{carries-reached, carries_next}

-- there is room for a − b, the points are independent with it, and their carrier is shorter and again made of differences of corners
pub record Next (A B S : List Pt) (w : Pt) : Type 0 where
  pub fits : length S ≤ 3
  pub independent : Independent (S ++ w ∷ [])
  pub shorter : (T : List Pt) → Carries T (S ++ w ∷ []) → Shorter (footing T) (footing S)
  pub between : (T : List Pt) → Carries T (S ++ w ∷ []) → AllByRecursion (Between A B) T

-- the round stops at the nearest difference, or goes on
pub round : (A B S : List Pt) {ys : List Pt} (a b : Pt) → Carries S ys → AllByRecursion (Between A B) S → Farthest A (origin -ᵛ foot S) a → Farthest B (foot S) b → Nearest A B (footing S) ⊎ Next A B S (a -ᵛ b)
round A B S a b c h l r =
    let D = foot S in let w = a -ᵛ b in
    by_lt_z (extent S *ℤ dot D w) (dot D D)
    (λ n. inr (record {
      fits = room S w c.independent.few n;
      independent = independent_push S w c.independent n;
      shorter = λ T t. carries_next w c n t;
      between = λ T t. All-weaker _ _ (λ x. all-has (Between A B) (S ++ w ∷ []) x (All-push _ S w h (record { a = a; b = b; in_a = l.one; in_b = r.one; is = refl }))) T t.among;
    }))
    (λ n. inl (nearest_by_supports A B (footing S) a b h (carries-reached c) l r n))
