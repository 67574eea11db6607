-- The foot of one to four points: its weights, and that it is equally far along from each of them.
use Rattle.std.proofs.Common.{◌≡◌, ◌≤◌, List, [], ◌∷◌, length, ℤ, pos, negsuc, ◌+ℤ◌, ◌-ℤ◌, ◌*ℤ◌, nat_abs, ◌≤ℤ◌, sym, refl, ◌∙◌, arith}
use Rattle.std.specs.List.{ContainsAt as Has}
use Rattle.std.proofs.ByRecursion.{all-has}
use Rattle.std.proofs.lemmas.Int.{ints}
use Rattle.integers.specs.Points.{Pt, ◌·ᵛ◌, dot, det, origin}
use Rattle.integers.proofs.Solver.{Exp, var, con, neg, ◌⊕◌, ◌⊗◌, ◌⊖◌, solve}
use Rattle.integers.proofs.Vectors.{V, ◌⊕ᵛ◌, ◌⊖ᵛ◌, ◌⊗ᵛ◌, dot_e, cross_e, det_e, origin_e, P₀, P₁, P₂, P₃, pts, solve_v}
use Rattle.integers.proofs.Order.{*ℤ_cancel≤}
use Rattle.integers.proofs.Certs.{prove≡, by_eq}
use Rattle.integers.proofs.Squares.{dot_nonneg}
use Rattle.convex.specs.Fractions.{SquareOf}
use Rattle.convex.specs.Simplices.{Foot, normal, volume, sign, weights, foot, extent, footing, Independent}
use Rattle.convex.proofs.Fractions.{square_of_level}

-- `normal` and `volume`, quoted for the solver
abbrev pub normal_e : V → V → V → V
normal_e a b c = cross_e a b ⊕ᵛ cross_e b c ⊕ᵛ cross_e c a

abbrev pub volume_e : V → V → V → V → Exp
volume_e a b c d = dot_e (normal_e a b c) d ⊖ det_e a b c

foot₁ : (a : Pt) → let ys = a ∷ [] in Foot ys (weights ys) (footing ys)
foot₁ a =
    let ρ = pts (a ∷ []) [] in let one = con (pos 1) in
    record {
      one_each = refl;
      sum = solve_v ρ P₀ (one ⊗ᵛ P₀ ⊕ᵛ origin_e) refl refl refl;
      whole = refl;
      level = (solve ρ (one ⊗ dot_e P₀ P₀) (dot_e P₀ P₀) refl, tt);
    }

foot₂ : (a b : Pt) → let ys = a ∷ b ∷ [] in Foot ys (weights ys) (footing ys)
foot₂ a b =
    let ρ = pts (a ∷ b ∷ []) [] in let e = P₁ ⊖ᵛ P₀ in let d = dot_e P₁ e ⊗ᵛ P₀ ⊖ᵛ dot_e P₀ e ⊗ᵛ P₁ in
    record {
      one_each = refl;
      sum = solve_v ρ d (dot_e P₁ e ⊗ᵛ P₀ ⊕ᵛ (neg (dot_e P₀ e) ⊗ᵛ P₁ ⊕ᵛ origin_e)) refl refl refl;
      whole = solve ρ (dot_e e e) (dot_e P₁ e ⊕ (neg (dot_e P₀ e) ⊕ con (pos 0))) refl;
      level = (solve ρ (dot_e e e ⊗ dot_e d P₀) (dot_e d d) refl, (solve ρ (dot_e e e ⊗ dot_e d P₁) (dot_e d d) refl, tt));
    }

-- a plane n·y = δ, and its foot δ n / n·n
on_plane : (n y : Pt) (δ : ℤ) → dot n y ≡ δ → dot n n *ℤ dot (δ ·ᵛ n) y ≡ dot (δ ·ᵛ n) (δ ·ᵛ n)
on_plane n y δ h =
    let N = P₀ in let d = var 6 in let D = d ⊗ᵛ N in
    prove≡ (pts (n ∷ y ∷ []) (δ ∷ [])) (dot_e N N ⊗ dot_e D P₁) (dot_e D D) (by_eq (dot_e N N ⊗ d) (dot_e N P₁) d h ∷ []) refl

foot₃ : (a b c : Pt) → let ys = a ∷ b ∷ c ∷ [] in Foot ys (weights ys) (footing ys)
foot₃ a b c =
    let ρ = pts (a ∷ b ∷ c ∷ []) [] in let n = normal_e P₀ P₁ P₂ in let δ = det_e P₀ P₁ P₂ in
    let k₀ = dot_e n (cross_e P₁ P₂) in let k₁ = dot_e n (cross_e P₂ P₀) in let k₂ = dot_e n (cross_e P₀ P₁) in
    record {
      one_each = refl;
      sum = solve_v ρ (δ ⊗ᵛ n) (k₀ ⊗ᵛ P₀ ⊕ᵛ (k₁ ⊗ᵛ P₁ ⊕ᵛ (k₂ ⊗ᵛ P₂ ⊕ᵛ origin_e))) refl refl refl;
      whole = solve ρ (dot_e n n) (k₀ ⊕ (k₁ ⊕ (k₂ ⊕ con (pos 0)))) refl;
      level = (
        on_plane (normal a b c) a (det a b c) (solve ρ (dot_e n P₀) δ refl),
        (on_plane (normal a b c) b (det a b c) (solve ρ (dot_e n P₁) δ refl), (on_plane (normal a b c) c (det a b c) (solve ρ (dot_e n P₂) δ refl), tt)),
      );
    }

-- the sign times the number is its size
pub sign-* : (v : ℤ) → sign v *ℤ v ≡ pos (nat_abs v)
sign-* (pos n) = omega (arith, ints)
sign-* (negsuc n) = omega (arith, ints)

foot₄ : (a b c d : Pt) → let ys = a ∷ b ∷ c ∷ d ∷ [] in Foot ys (weights ys) (footing ys)
foot₄ a b c d =
    let v = volume a b c d in let ρ = pts (a ∷ b ∷ c ∷ d ∷ []) (sign v ∷ pos (nat_abs v) ∷ []) in let s = var 12 in let w = var 13 in
    let k₀ = s ⊗ det_e P₁ P₂ P₃ in let k₁ = neg (s ⊗ det_e P₀ P₂ P₃) in let k₂ = s ⊗ det_e P₀ P₁ P₃ in let k₃ = neg (s ⊗ det_e P₀ P₁ P₂) in
    let flat : (y : Pt) → pos (nat_abs v) *ℤ dot origin y ≡ dot origin origin = λ y. solve (pts (y ∷ []) (pos (nat_abs v) ∷ [])) (var 3 ⊗ dot_e origin_e P₀) (dot_e origin_e origin_e) refl in
    record {
      one_each = refl;
      sum = solve_v ρ origin_e (k₀ ⊗ᵛ P₀ ⊕ᵛ (k₁ ⊗ᵛ P₁ ⊕ᵛ (k₂ ⊗ᵛ P₂ ⊕ᵛ (k₃ ⊗ᵛ P₃ ⊕ᵛ origin_e)))) refl refl refl;
      whole = sym (sign-* v) ∙ solve ρ (s ⊗ volume_e P₀ P₁ P₂ P₃) (k₀ ⊕ (k₁ ⊕ (k₂ ⊕ (k₃ ⊕ con (pos 0))))) refl;
      level = (flat a, (flat b, (flat c, (flat d, tt))));
    }

-- the weights are those of the foot
pub foot_laws : (ys : List Pt) → 1 ≤ length ys → length ys ≤ 4 → Foot ys (weights ys) (footing ys)
foot_laws [] p q = absurd (omega arith)
foot_laws (a ∷ []) p q = foot₁ a
foot_laws (a ∷ (b ∷ [])) p q = foot₂ a b
foot_laws (a ∷ (b ∷ (c ∷ []))) p q = foot₃ a b c
foot_laws (a ∷ (b ∷ (c ∷ (d ∷ [])))) p q = foot₄ a b c d
foot_laws (a ∷ (b ∷ (c ∷ (d ∷ (e ∷ ys))))) p q = absurd (omega arith)

-- W D·y = D·D, for each of the points y
pub level_at : (ys : List Pt) (y : Pt) → Independent ys → Has ys y → extent ys *ℤ dot (foot ys) y ≡ dot (foot ys) (foot ys)
level_at ys y i h = all-has (λ y. extent ys *ℤ dot (foot ys) y ≡ dot (foot ys) (foot ys)) ys y (foot_laws ys i.some i.few).level h

-- so the square of the foot is D·y / W
pub square-foot : (ys : List Pt) (y : Pt) → Independent ys → Has ys y → SquareOf (footing ys) (dot (foot ys) y) (extent ys)
square-foot ys y i h = square_of_level (footing ys) (dot (foot ys) y) (level_at ys y i h)

-- and D·y is not negative
pub gap≥ : (ys : List Pt) (y : Pt) → Independent ys → Has ys y → pos 0 ≤ℤ dot (foot ys) y
gap≥ ys y i h = *ℤ_cancel≤ (extent ys) i.apart (rw (level_at ys y i h, solve (extent ys ∷ []) (var 0 ⊗ con (pos 0)) (con (pos 0)) refl) (dot_nonneg (foot ys)))

-- the volume of a tetrahedron, by the determinants that its weights are made of
pub volume_is : (a b c d : Pt) → volume a b c d ≡ det b c d -ℤ det a c d +ℤ det a b d -ℤ det a b c
volume_is a b c d = solve (pts (a ∷ b ∷ c ∷ d ∷ []) []) (volume_e P₀ P₁ P₂ P₃) (det_e P₁ P₂ P₃ ⊖ det_e P₀ P₂ P₃ ⊕ det_e P₀ P₁ P₃ ⊖ det_e P₀ P₁ P₂) refl
