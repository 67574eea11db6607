-- Products with turned points and with sums of points.
use Rattle.std.proofs.Common.{◌≡◌, [], ◌∷◌, refl}
use Rattle.integers.specs.Points.{Pt, ◌+ᵛ◌, dot}
use Rattle.integers.proofs.Solver.{neg, solve}
use Rattle.integers.proofs.Vectors.{V, ◌⊕ᵛ◌, dot_e, P₀, P₁, P₂, pts, solve_v}
use Rattle.poses.specs.declared.turn.Turn.{Turn}
use Rattle.poses.specs.declared.turn.Turn.TheVariants.{Straight, Quarter, Half, ThreeQuarters}
use Rattle.poses.specs.Poses.{turned, back}

-- `turned`, over expressions
abbrev turned_e : Turn → V → V
turned_e Straight p = p
turned_e Quarter p = record { x = neg p.y; y = p.x; z = p.z }
turned_e Half p = record { x = neg p.x; y = neg p.y; z = p.z }
turned_e ThreeQuarters p = record { x = p.y; y = neg p.x; z = p.z }

-- the product with a turned point is that of the direction turned back with the point
pub dot-turned : (t : Turn) (d p : Pt) → dot d (turned t p) ≡ dot (turned (back t) d) p
dot-turned Straight d p = refl
dot-turned Quarter d p = solve (pts (d ∷ p ∷ []) []) (dot_e P₀ (turned_e Quarter P₁)) (dot_e (turned_e ThreeQuarters P₀) P₁) refl
dot-turned Half d p = solve (pts (d ∷ p ∷ []) []) (dot_e P₀ (turned_e Half P₁)) (dot_e (turned_e Half P₀) P₁) refl
dot-turned ThreeQuarters d p = solve (pts (d ∷ p ∷ []) []) (dot_e P₀ (turned_e ThreeQuarters P₁)) (dot_e (turned_e Quarter P₀) P₁) refl

-- sums of points associate
pub plus_assoc : (a b c : Pt) → a +ᵛ (b +ᵛ c) ≡ a +ᵛ b +ᵛ c
plus_assoc a b c = solve_v (pts (a ∷ b ∷ c ∷ []) []) (P₀ ⊕ᵛ (P₁ ⊕ᵛ P₂)) (P₀ ⊕ᵛ P₁ ⊕ᵛ P₂) refl refl refl
