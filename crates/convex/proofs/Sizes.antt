-- How large the numbers of a simplex get whose points lie within ±28: differences of corners that lie within ±14.
use Rattle.std.proofs.Common.{◌≡◌, ℕ, ◌≤◌, T, leb, List, [], ◌∷◌, ℤ, pos, ◌*ℤ◌, nat_abs, ◌≤ℤ◌, sym, refl, subst, arith, leb→le}
use Rattle.std.specs.List.{ContainsAt as Has, AllByRecursion}
use Rattle.std.proofs.ByRecursion.{All-weaker, all-has, all_has_itself}
use Rattle.std.proofs.lemmas.Int.{ints}
use Rattle.integers.specs.Points.{Pt, ◌+ᵛ◌, ◌-ᵛ◌, ◌·ᵛ◌, dot, cross, det}
use Rattle.integers.specs.Space.{Near}
use Rattle.integers.proofs.Solver.{Exp, var, con, ◌⊗◌, eval, solve}
use Rattle.integers.proofs.Vectors.{V, eval_v, P₀, P₁, P₂, P₃, ◌⊕ᵛ◌, ◌⊖ᵛ◌, ◌⊗ᵛ◌, dot_e, cross_e, det_e, origin_e, pts}
use Rattle.integers.proofs.Overflow.{Bv, vals, bnd, bounded}
use Rattle.integers.proofs.Environments.{of_bound, num, point}
use Rattle.convex.specs.Simplices.{normal, volume, foot, extent}
use Rattle.convex.proofs.Simplices.{normal_e, volume_e}

-- ---- bounds, by those of the variables
pub near_by : {n : ℕ} {p q : Pt} → p ≡ q → Near n q → Near n p
near_by {n} e h = subst (λ t. Near n t) (sym e) h

pub size_by : {n : ℕ} {x y : ℤ} → x ≡ y → nat_abs y ≤ n → nat_abs x ≤ n
size_by {n} e h = subst (λ t. nat_abs t ≤ n) (sym e) h

pub wider : {m : ℕ} (n : ℕ) (p : Pt) → m ≤ n → Near m p → Near n p
wider n p l h = (omega arith, omega arith, omega arith)

-- an expression over bounded variables is within what its bounds come to
pub sized : (ρ : List Bv) (e : Exp) (n : ℕ) → T (leb (bnd ρ e) n) → nat_abs (eval (vals ρ) e) ≤ n
sized ρ e n t = let k = of_bound (bnd ρ e) (eval (vals ρ) e) (bounded ρ e) in let l : bnd ρ e ≤ n = leb→le _ _ t in omega arith

pub sized_v : (ρ : List Bv) (e : V) (n : ℕ) → T (leb (bnd ρ e.x) n) → T (leb (bnd ρ e.y) n) → T (leb (bnd ρ e.z) n) → Near n (eval_v (vals ρ) e)
sized_v ρ e n s t u = (sized ρ e.x n s, sized ρ e.y n t, sized ρ e.z n u)

-- a difference of corners
pub near-between : (a b : Pt) → Near 14 a → Near 14 b → Near 28 (a -ᵛ b)
near-between a b h k = sized_v (point a h (point b k [])) (P₀ ⊖ᵛ P₁) 28 tt tt tt

-- ---- of two points
module _ (a b : Pt) (ha : Near 28 a) (hb : Near 28 b) where
  abbrev two : List Bv
  two = point a ha (point b hb [])

  pub near_edge : Near 56 (b -ᵛ a)
  near_edge = sized_v two (P₁ ⊖ᵛ P₀) 56 tt tt tt

  pub near-cross : Near 1568 (cross a b)
  near-cross = sized_v two (cross_e P₀ P₁) 1568 tt tt tt

  pub size_dot : nat_abs (dot a b) ≤ 2352
  size_dot = sized two (dot_e P₀ P₁) 2352 tt

  pub size_edge_first : nat_abs (dot a (b -ᵛ a)) ≤ 4704
  size_edge_first = sized two (dot_e P₀ (P₁ ⊖ᵛ P₀)) 4704 tt

  pub size_edge_second : nat_abs (dot b (b -ᵛ a)) ≤ 4704
  size_edge_second = sized two (dot_e P₁ (P₁ ⊖ᵛ P₀)) 4704 tt

  pub near_first : Near 131712 (dot b (b -ᵛ a) ·ᵛ a)
  near_first = sized_v two (dot_e P₁ (P₁ ⊖ᵛ P₀) ⊗ᵛ P₀) 131712 tt tt tt

  pub near-second : Near 131712 (dot a (b -ᵛ a) ·ᵛ b)
  near-second = sized_v two (dot_e P₀ (P₁ ⊖ᵛ P₀) ⊗ᵛ P₁) 131712 tt tt tt

-- ---- of three and four points
module _ (a b c : Pt) (ha : Near 28 a) (hb : Near 28 b) (hc : Near 28 c) where
  abbrev three : List Bv
  three = point a ha (point b hb (point c hc []))

  pub near_crosses : Near 3136 (cross a b +ᵛ cross b c)
  near_crosses = sized_v three (cross_e P₀ P₁ ⊕ᵛ cross_e P₁ P₂) 3136 tt tt tt

  pub near-normal : Near 4704 (normal a b c)
  near-normal = sized_v three (normal_e P₀ P₁ P₂) 4704 tt tt tt

  pub size_det : nat_abs (det a b c) ≤ 131712
  size_det = sized three (det_e P₀ P₁ P₂) 131712 tt

  module _ (d : Pt) (hd : Near 28 d) where
    abbrev four : List Bv
    four = point a ha (point b hb (point c hc (point d hd [])))

    pub size_level : nat_abs (dot (normal a b c) d) ≤ 395136
    size_level = sized four (dot_e (normal_e P₀ P₁ P₂) P₃) 395136 tt

    pub size_volume : nat_abs (volume a b c d) ≤ 526848
    size_volume = sized four (volume_e P₀ P₁ P₂ P₃) 526848 tt

-- ---- of the foot D / W
pub near-foot : (S : List Pt) → AllByRecursion (Near 28) S → Near 619573248 (foot S)
near-foot [] h = (leb→le _ _ tt, leb→le _ _ tt, leb→le _ _ tt)
near-foot (a ∷ []) h = wider 619573248 a (leb→le _ _ tt) h.0
near-foot (a ∷ (b ∷ [])) h = sized_v (two a b h.0 h.1.0) (dot_e P₁ (P₁ ⊖ᵛ P₀) ⊗ᵛ P₀ ⊖ᵛ dot_e P₀ (P₁ ⊖ᵛ P₀) ⊗ᵛ P₁) 619573248 tt tt tt
near-foot (a ∷ (b ∷ (c ∷ []))) h = sized_v (three a b c h.0 h.1.0 h.1.1.0) (det_e P₀ P₁ P₂ ⊗ᵛ normal_e P₀ P₁ P₂) 619573248 tt tt tt
near-foot (a ∷ (b ∷ (c ∷ (d ∷ S)))) h = (leb→le _ _ tt, leb→le _ _ tt, leb→le _ _ tt)

pub size_extent : (S : List Pt) → AllByRecursion (Near 28) S → nat_abs (extent S) ≤ 66382848
size_extent [] h = leb→le _ _ tt
size_extent (a ∷ []) h = leb→le _ _ tt
size_extent (a ∷ (b ∷ [])) h = sized (two a b h.0 h.1.0) (dot_e (P₁ ⊖ᵛ P₀) (P₁ ⊖ᵛ P₀)) 66382848 tt
size_extent (a ∷ (b ∷ (c ∷ []))) h = sized (three a b c h.0 h.1.0 h.1.1.0) (dot_e (normal_e P₀ P₁ P₂) (normal_e P₀ P₁ P₂)) 66382848 tt
size_extent (a ∷ (b ∷ (c ∷ (d ∷ [])))) h = let v = size_volume a b c h.0 h.1.0 h.1.1.0 d h.1.1.1.0 in omega arith
size_extent (a ∷ (b ∷ (c ∷ (d ∷ (e ∷ S))))) h = leb→le _ _ tt

pub extent≤ : (S : List Pt) → AllByRecursion (Near 28) S → extent S ≤ℤ pos 66382848
extent≤ S h = at_most (extent S) (size_extent S h)
  where
    at_most : (x : ℤ) → nat_abs x ≤ 66382848 → x ≤ℤ pos 66382848
    at_most x h = omega (arith, ints)

module _ (S : List Pt) (h : AllByRecursion (Near 28) S) where
  -- D·D
  pub size_square : nat_abs (dot (foot S) (foot S)) ≤ 1151613028911808512
  size_square = sized (point (foot S) (near-foot S h) []) (dot_e P₀ P₀) 1151613028911808512 tt

  module _ (w : Pt) (hw : Near 28 w) where
    -- D·w
    pub size_product : nat_abs (dot (foot S) w) ≤ 52044152832
    size_product = sized (point (foot S) (near-foot S h) (point w hw [])) (dot_e P₀ P₁) 52044152832 tt

    -- W D·w, the other side of the stopping test
    pub size_test : nat_abs (extent S *ℤ dot (foot S) w) ≤ 3454839086735425536
    size_test = sized (num (extent S) (size_extent S h) (num (dot (foot S) w) size_product [])) (var 0 ⊗ var 1) 3454839086735425536 tt

-- ---- of the gap D·y, for a point y of the simplex: the square of the foot is D·y / W
-- of a triangle it is the square of the determinant
triangle : (a b c : Pt) → Near 28 a → Near 28 b → Near 28 c → AllByRecursion (λ y. nat_abs (dot (foot (a ∷ b ∷ c ∷ [])) y) ≤ 17348050944) (a ∷ b ∷ c ∷ [])
triangle a b c ha hb hc =
    let ρ = pts (a ∷ b ∷ c ∷ []) [] in let δ = det_e P₀ P₁ P₂ in let D = δ ⊗ᵛ normal_e P₀ P₁ P₂ in
    let small : nat_abs (det a b c *ℤ det a b c) ≤ 17348050944 = sized (num (det a b c) (size_det a b c ha hb hc) []) (var 0 ⊗ var 0) 17348050944 tt in
    (size_by (solve ρ (dot_e D P₀) (δ ⊗ δ) refl) small, (size_by (solve ρ (dot_e D P₁) (δ ⊗ δ) refl) small, (size_by (solve ρ (dot_e D P₂) (δ ⊗ δ) refl) small, tt)))

gaps : (S : List Pt) → AllByRecursion (Near 28) S → AllByRecursion (λ y. nat_abs (dot (foot S) y) ≤ 17348050944) S
gaps [] h = tt
gaps (a ∷ []) h = (sized (point a h.0 []) (dot_e P₀ P₀) 17348050944 tt, tt)
gaps (a ∷ (b ∷ [])) h =
    let ρ = two a b h.0 h.1.0 in let D = dot_e P₁ (P₁ ⊖ᵛ P₀) ⊗ᵛ P₀ ⊖ᵛ dot_e P₀ (P₁ ⊖ᵛ P₀) ⊗ᵛ P₁ in
    (sized ρ (dot_e D P₀) 17348050944 tt, (sized ρ (dot_e D P₁) 17348050944 tt, tt))
gaps (a ∷ (b ∷ (c ∷ []))) h = triangle a b c h.0 h.1.0 h.1.1.0
gaps (a ∷ (b ∷ (c ∷ (d ∷ S)))) h = let ys = a ∷ b ∷ c ∷ d ∷ S in All-weaker (Has ys) _ (λ y _. size_by (solve (pts (y ∷ []) []) (dot_e origin_e P₀) (con (pos 0)) refl) (leb→le _ _ tt)) ys (all_has_itself ys)

pub size_gap : (S : List Pt) (y : Pt) → AllByRecursion (Near 28) S → Has S y → nat_abs (dot (foot S) y) ≤ 17348050944
size_gap S y h i = all-has _ S y (gaps S h) i
