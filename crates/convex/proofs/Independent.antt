-- Affine independence: of a simplex with one more corner on the near side of its foot, and of the faces of a simplex.
use Rattle.std.proofs.Common.{◌≡◌, ℕ, zero, suc, ◌<◌, ◌≤◌, List, [], ◌∷◌, ◌++◌, length, ℤ, pos, negsuc, ◌-ℤ◌, ◌*ℤ◌, nat_abs, ◌<ℤ◌, sym, refl, ◌∙◌, subst, arith, length-append}
use lib.IntN.{*ℤ-zero}
use Rattle.std.proofs.lemmas.Int.{ints}
use Rattle.integers.specs.Points.{Pt, ◌-ᵛ◌, ◌·ᵛ◌, dot, cross, det, origin}
use Rattle.integers.proofs.Solver.{var, con, ◌⊗◌, ◌⊖◌, residue, nil, solve}
use Rattle.integers.proofs.Vectors.{V, ◌⊖ᵛ◌, ◌⊗ᵛ◌, dot_e, cross_e, origin_e, P₀, P₁, P₂, P₃, pt, pts, eval_v}
use Rattle.integers.proofs.Order.{gap<, *ℤ_pos, *ℤ_cancel<}
use Rattle.integers.proofs.Certs.{prove<, le, lt}
use Rattle.integers.proofs.Squares.{dot_nonneg, cauchy}
use Rattle.convex.specs.Hulls.{without}
use Rattle.convex.specs.Simplices.{normal, volume, sign, foot, extent, Independent}
use Rattle.convex.proofs.Combs.{length_without}
use Rattle.convex.proofs.Simplices.{normal_e, volume_e, sign-*}

-- a point with a product above zero is not the origin
nonzero : (n y : Pt) → pos 0 <ℤ dot n y → pos 0 <ℤ dot n n
nonzero n y h =
    let ny = var 0 in let nn' = var 1 in let yy = var 2 in let O = con (pos 0) in
    *ℤ_cancel< (dot y y) (dot_nonneg y) (prove< (dot n y ∷ dot n n ∷ dot y y ∷ []) (yy ⊗ O) (yy ⊗ nn') (le (ny ⊗ ny) (nn' ⊗ yy) (cauchy n y) ∷ lt O (ny ⊗ ny) (*ℤ_pos h h) ∷ []) refl)

-- one, two or three points, with w on the near side of their foot
independent₁ : (a w : Pt) → (extent (a ∷ []) *ℤ dot (foot (a ∷ [])) w) <ℤ dot (foot (a ∷ [])) (foot (a ∷ [])) → pos 0 <ℤ extent (a ∷ w ∷ [])
independent₁ a w h =
    let A = pt 0 in let B = pt 1 in
    nonzero (w -ᵛ a) (negsuc 0 ·ᵛ a) (prove< (pts (a ∷ w ∷ []) []) (con (pos 0)) (dot_e (B ⊖ᵛ A) (con (negsuc 0) ⊗ᵛ A)) (lt (con (pos 1) ⊗ dot_e A B) (dot_e A A) h ∷ []) refl)

-- the weight of w in the triangle a, b, w is D·a − D·w
independent₂ : (a b w : Pt) → let S = a ∷ b ∷ [] in (extent S *ℤ dot (foot S) w) <ℤ dot (foot S) (foot S) → pos 0 <ℤ extent (a ∷ b ∷ w ∷ [])
independent₂ a b w h =
    let D = foot (a ∷ b ∷ []) in let e = P₁ ⊖ᵛ P₀ in let d = dot_e P₁ e ⊗ᵛ P₀ ⊖ᵛ dot_e P₀ e ⊗ᵛ P₁ in let ρ = pts (a ∷ b ∷ w ∷ []) [] in
    let level : dot D D ≡ extent (a ∷ b ∷ []) *ℤ dot D a = solve ρ (dot_e d d) (dot_e e e ⊗ dot_e d P₀) refl in
    let near : dot D w <ℤ dot D a = *ℤ_cancel< (extent (a ∷ b ∷ [])) (dot_nonneg (b -ᵛ a)) (rw (← level) h) in
    let weight : dot (normal a b w) (cross a b) ≡ dot D a -ℤ dot D w = solve ρ (dot_e (normal_e P₀ P₁ P₂) (cross_e P₀ P₁)) (dot_e d P₀ ⊖ dot_e d P₂) refl in
    nonzero (normal a b w) (cross a b) (rw weight (gap< near))

-- the volume of a, b, c, w is n·w − δ
independent₃ : (a b c w : Pt) → let S = a ∷ b ∷ c ∷ [] in (extent S *ℤ dot (foot S) w) <ℤ dot (foot S) (foot S) → pos 0 <ℤ extent (a ∷ b ∷ c ∷ w ∷ [])
independent₃ a b c w h =
    let n = normal a b c in let δ = det a b c in
    let N = pt 0 in let W = pt 1 in let d = var 6 in let O = con (pos 0) in let ρ = pts (n ∷ w ∷ []) (δ ∷ []) in
    away δ (dot n w -ℤ δ) (*ℤ_cancel< (dot n n) (dot_nonneg n) (prove< ρ (dot_e N N ⊗ (d ⊗ (dot_e N W ⊖ d))) (dot_e N N ⊗ O) (lt (dot_e N N ⊗ dot_e (d ⊗ᵛ N) W) (dot_e (d ⊗ᵛ N) (d ⊗ᵛ N)) h ∷ []) refl))
  where
    away : (δ v : ℤ) → (δ *ℤ v) <ℤ pos 0 → pos 0 <ℤ pos (nat_abs v)
    away δ (pos zero) h = absurd (rw (*ℤ-zero δ) at h).lt
    away δ (pos (suc n)) h = omega (arith, ints)
    away δ (negsuc n) h = omega (arith, ints)

-- no corner is on the near side of the foot of four points, the origin
no_fifth : (W : ℤ) (w : Pt) → (W *ℤ dot origin w) <ℤ dot origin origin → ⊥
no_fifth W w h = (rw (solve (pts (w ∷ []) (W ∷ [])) (var 3 ⊗ dot_e origin_e P₀) (con (pos 0)) refl) at h).lt

-- so there is room for w among four
pub room : (S : List Pt) (w : Pt) → length S ≤ 4 → (extent S *ℤ dot (foot S) w) <ℤ dot (foot S) (foot S) → length S ≤ 3
room [] w q h = omega arith
room (a ∷ []) w q h = omega arith
room (a ∷ (b ∷ [])) w q h = omega arith
room (a ∷ (b ∷ (c ∷ []))) w q h = omega arith
room (a ∷ (b ∷ (c ∷ (d ∷ [])))) w q h = absurd (no_fifth (extent (a ∷ b ∷ c ∷ d ∷ [])) w h)
room (a ∷ (b ∷ (c ∷ (d ∷ (e ∷ S))))) w q h = absurd (omega arith)

-- the points are affinely independent with w
with_one_more : (S : List Pt) (w : Pt) → 1 ≤ length S → length S ≤ 3 → (extent S *ℤ dot (foot S) w) <ℤ dot (foot S) (foot S) → pos 0 <ℤ extent (S ++ w ∷ [])
with_one_more [] w p q h = absurd (omega arith)
with_one_more (a ∷ []) w p q h = independent₁ a w h
with_one_more (a ∷ (b ∷ [])) w p q h = independent₂ a b w h
with_one_more (a ∷ (b ∷ (c ∷ []))) w p q h = independent₃ a b c w h
with_one_more (a ∷ (b ∷ (c ∷ (d ∷ S)))) w p q h = absurd (omega arith)

pub independent_push : (S : List Pt) (w : Pt) → Independent S → (extent S *ℤ dot (foot S) w) <ℤ dot (foot S) (foot S) → Independent (S ++ w ∷ [])
independent_push S w i h =
    let k = room S w i.few h in let long = length-append S (w ∷ []) in
    record { some = omega (arith, long); few = omega (arith, long); apart = with_one_more S w i.some k h }

-- ---- the faces of an independent simplex
-- an edge e of a triangle: n·n = e·(f × n), where n = e × f
edge : (a b c : Pt) (e f : V) → let n = normal_e P₀ P₁ P₂ in residue (dot_e n n) (dot_e e (cross_e f n)) ≡ nil → pos 0 <ℤ extent (a ∷ b ∷ c ∷ []) → let g = eval_v (pts (a ∷ b ∷ c ∷ []) []) e in pos 0 <ℤ dot g g
edge a b c e f r h =
    let ρ = pts (a ∷ b ∷ c ∷ []) [] in let n = normal_e P₀ P₁ P₂ in
    nonzero (eval_v ρ e) (eval_v ρ (cross_e f n)) (subst (λ t. pos 0 <ℤ t) (solve ρ (dot_e n n) (dot_e e (cross_e f n)) r) h)

edges : (a b c : Pt) (i : ℕ) → i < 3 → let ys = a ∷ b ∷ c ∷ [] in pos 0 <ℤ extent ys → pos 0 <ℤ extent (without i ys)
edges a b c zero l h = edge a b c (P₂ ⊖ᵛ P₁) (P₀ ⊖ᵛ P₁) refl h
edges a b c (suc zero) l h = edge a b c (P₂ ⊖ᵛ P₀) (P₀ ⊖ᵛ P₁) refl h
edges a b c (suc (suc zero)) l h = edge a b c (P₁ ⊖ᵛ P₀) (P₂ ⊖ᵛ P₀) refl h
edges a b c (suc (suc (suc i))) l h = absurd (omega arith)

-- a face of a tetrahedron, with the normal n: the volume is n·y, where y leads to the corner across
face : (a b c d : Pt) (n y : V) → residue (var 12 ⊗ volume_e P₀ P₁ P₂ P₃) (dot_e n (var 12 ⊗ᵛ y)) ≡ nil → let ys = a ∷ b ∷ c ∷ d ∷ [] in pos 0 <ℤ extent ys → let g = eval_v (pts ys (sign (volume a b c d) ∷ [])) n in pos 0 <ℤ dot g g
face a b c d n y r h =
    let v = volume a b c d in let ρ = pts (a ∷ b ∷ c ∷ d ∷ []) (sign v ∷ []) in let s = var 12 in
    nonzero (eval_v ρ n) (eval_v ρ (s ⊗ᵛ y)) (subst (λ t. pos 0 <ℤ t) (sym (sign-* v) ∙ solve ρ (s ⊗ volume_e P₀ P₁ P₂ P₃) (dot_e n (s ⊗ᵛ y)) r) h)

faces : (a b c d : Pt) (i : ℕ) → i < 4 → let ys = a ∷ b ∷ c ∷ d ∷ [] in pos 0 <ℤ extent ys → pos 0 <ℤ extent (without i ys)
faces a b c d zero l h = face a b c d (normal_e P₁ P₂ P₃) (P₁ ⊖ᵛ P₀) refl h
faces a b c d (suc zero) l h = face a b c d (normal_e P₀ P₂ P₃) (P₁ ⊖ᵛ P₀) refl h
faces a b c d (suc (suc zero)) l h = face a b c d (normal_e P₀ P₁ P₃) (P₀ ⊖ᵛ P₂) refl h
faces a b c d (suc (suc (suc zero))) l h = face a b c d (normal_e P₀ P₁ P₂) (P₃ ⊖ᵛ P₀) refl h
faces a b c d (suc (suc (suc (suc i)))) l h = absurd (omega arith)

each_face : (ys : List Pt) (i : ℕ) → 2 ≤ length ys → length ys ≤ 4 → i < length ys → pos 0 <ℤ extent ys → pos 0 <ℤ extent (without i ys)
each_face [] i p q l h = absurd (omega arith)
each_face (a ∷ []) i p q l h = absurd (omega arith)
each_face (a ∷ (b ∷ [])) zero p q l h = omega (arith, ints)
each_face (a ∷ (b ∷ [])) (suc zero) p q l h = omega (arith, ints)
each_face (a ∷ (b ∷ [])) (suc (suc i)) p q l h = absurd (omega arith)
each_face (a ∷ (b ∷ (c ∷ []))) i p q l h = edges a b c i l h
each_face (a ∷ (b ∷ (c ∷ (d ∷ [])))) i p q l h = faces a b c d i l h
each_face (a ∷ (b ∷ (c ∷ (d ∷ (e ∷ ys))))) i p q l h = absurd (omega arith)

-- each face of independent points is independent
pub independent-without : (ys : List Pt) (i : ℕ) → 2 ≤ length ys → i < length ys → Independent ys → Independent (without i ys)
independent-without ys i p l h =
    let long = length_without i ys l in
    record { some = omega (arith, long); few = omega (arith, long, h.few); apart = each_face ys i p h.few l h.apart }
