-- Farthest corners of bodies whose corners are moved one by one.
use Rattle.std.proofs.Common.{◌≡◌, List, [], ◌∷◌, map, ℤ, ◌+ℤ◌, ◌≤ℤ◌, refl, ap, ◌∙◌, arith}
use lib.ListN.{length-map}
use Rattle.std.specs.List.{ContainsAt as Has}
use Rattle.std.proofs.ByRecursion.{All-map, All-weaker}
use Rattle.std.proofs.lemmas.List.{get_or-map}
use Rattle.std.proofs.lemmas.Int.{ints}
use Rattle.integers.specs.Points.{Pt, ◌+ᵛ◌, dot}
use Rattle.integers.proofs.Solver.{◌⊕◌, solve}
use Rattle.integers.proofs.Vectors.{◌⊕ᵛ◌, dot_e, P₀, P₁, P₂, pts}
use Rattle.convex.specs.Hulls.{Farthest}

-- the product with a sum is the sum of the products
pub dot-sum : (d p q : Pt) → dot d (p +ᵛ q) ≡ dot d p +ℤ dot d q
dot-sum d p q = solve (pts (d ∷ p ∷ q ∷ []) []) (dot_e P₀ (P₁ ⊕ᵛ P₂)) (dot_e P₀ P₁ ⊕ dot_e P₀ P₂) refl

-- sums with one number k, in order
pub plus≤ : {a b x y : ℤ} (k : ℤ) → x ≡ a +ℤ k → y ≡ b +ℤ k → a ≤ℤ b → x ≤ℤ y
plus≤ k e f h = omega (arith, ints)

-- a moved corner of a list is one of the moved list
pub has_map : (f : Pt → Pt) (ps : List Pt) (p : Pt) → Has ps p → Has (map f ps) (f p)
has_map f ps p h = (h.0, omega (arith, length-map ps f, h.1), λ e. get_or-map f ps h.0 p e h.1 ∙ ap f (h.2 p))

-- where a move adds the same to every product, up to another direction, it keeps the farthest corner
pub farthest-map : (f : Pt → Pt) (d e : Pt) (k : ℤ) → ((p : Pt) → dot d (f p) ≡ dot e p +ℤ k) → (ps : List Pt) (p : Pt) → Farthest ps e p → Farthest (map f ps) d (f p)
farthest-map f d e k same ps p h = record { one = has_map f ps p h.one; most = All-map _ f ps (All-weaker _ _ (λ x l. plus≤ k (same x) (same p) l) ps h.most) }
