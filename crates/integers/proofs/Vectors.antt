-- Quoted points, for the solver: what `specs.Points` has over ℤ, over expressions. A call here evaluates to the call there of the same name.
use Rattle.std.proofs.Common.{◌≡◌, ℕ, ◌+◌, ◌*◌, List, [], ◌∷◌, ℤ, pos}
use Rattle.integers.specs.Points.{Pt}
use Rattle.integers.proofs.Solver.{Exp, var, con, ◌⊕◌, ◌⊗◌, ◌⊖◌, residue, nil, eval, solve}

pub record V : Type 0 where
  pub x : Exp
  pub y : Exp
  pub z : Exp

infixl 6 ◌⊕ᵛ◌ ◌⊖ᵛ◌
infixr 7 ◌⊗ᵛ◌
abbrev pub ◌⊕ᵛ◌ : V → V → V
a ⊕ᵛ b = record { x = a.x ⊕ b.x; y = a.y ⊕ b.y; z = a.z ⊕ b.z }

abbrev pub ◌⊖ᵛ◌ : V → V → V
a ⊖ᵛ b = record { x = a.x ⊖ b.x; y = a.y ⊖ b.y; z = a.z ⊖ b.z }

abbrev pub ◌⊗ᵛ◌ : Exp → V → V
k ⊗ᵛ a = record { x = k ⊗ a.x; y = k ⊗ a.y; z = k ⊗ a.z }

abbrev pub dot_e : V → V → Exp
dot_e a b = a.x ⊗ b.x ⊕ a.y ⊗ b.y ⊕ a.z ⊗ b.z

abbrev pub cross_e : V → V → V
cross_e a b = record { x = a.y ⊗ b.z ⊖ a.z ⊗ b.y; y = a.z ⊗ b.x ⊖ a.x ⊗ b.z; z = a.x ⊗ b.y ⊖ a.y ⊗ b.x }

abbrev pub det_e : V → V → V → Exp
det_e a b c = dot_e a (cross_e b c)

abbrev pub origin_e : V
origin_e = record { x = con (pos 0); y = con (pos 0); z = con (pos 0) }

-- the point k of the environment `pts`
abbrev pub pt : ℕ → V
pt k = record { x = var (3 * k); y = var (3 * k + 1); z = var (3 * k + 2) }

abbrev pub P₀ : V
P₀ = pt 0

abbrev pub P₁ : V
P₁ = pt 1

abbrev pub P₂ : V
P₂ = pt 2

abbrev pub P₃ : V
P₃ = pt 3

-- the scalar i of an environment of n points
abbrev pub scalar : ℕ → ℕ → Exp
scalar n i = var (3 * n + i)

-- points first, and then scalars
abbrev pub pts : List Pt → List ℤ → List ℤ
pts [] ks = ks
pts (a ∷ ps) ks = a.x ∷ a.y ∷ a.z ∷ pts ps ks

abbrev pub eval_v : List ℤ → V → Pt
eval_v ρ a = record { x = eval ρ a.x; y = eval ρ a.y; z = eval ρ a.z }

-- three coordinates at once
pub solve_v : (ρ : List ℤ) (l r : V) → residue l.x r.x ≡ nil → residue l.y r.y ≡ nil → residue l.z r.z ≡ nil → eval_v ρ l ≡ eval_v ρ r
solve_v ρ l r p q s i = record { x = solve ρ l.x r.x p i; y = solve ρ l.y r.y q i; z = solve ρ l.z r.z s i }
