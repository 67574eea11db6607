-- Laws of fractions: equality, and the order by length.
use Rattle.std.proofs.Common.{◌≡◌, ◌⊎◌, [], ◌∷◌, ℤ, pos, ◌+ℤ◌, ◌*ℤ◌, ◌≤ℤ◌, ◌<ℤ◌, refl, ap, inl, inr, arith}
use lib.Signed.{clash_ℤ}
use Rattle.std.proofs.lemmas.Int.{ints, by_lt_z}
use Rattle.integers.specs.Points.{Pt, ◌-ᵛ◌, ◌·ᵛ◌, dot}
use Rattle.integers.proofs.Solver.{var, con, neg, ◌⊕◌, ◌⊗◌}
use Rattle.integers.proofs.Vectors.{◌⊖ᵛ◌, ◌⊗ᵛ◌, dot_e, pt, pts}
use Rattle.integers.proofs.VectorCerts.{by_eq_v, prove_v, ·ᵛ_cancel}
use Rattle.integers.proofs.Order.{<ℤ→≤ℤ, ≤ℤ_of_≡, *ℤ_pos, *ℤ_mono<, *ℤ_cancel, *ℤ_cancel≤, *ℤ_cancel<}
use Rattle.integers.proofs.Certs.{prove≤, prove<, prove≡, ◌⊠◌, num, nn, sq, le, lt, eq, by_eq}
use Rattle.integers.proofs.Squares.{dot_zero}
use Rattle.convex.specs.Fractions.{Frac, Same, Shorter, NoLonger, SquareOf}

-- ---- equality
-- equal fractions are equally long
pub same_length : (x y : Frac) → Same x y → dot x.point x.point *ℤ (y.over *ℤ y.over) ≡ dot y.point y.point *ℤ (x.over *ℤ x.over)
same_length x y s =
    let X = pt 0 in let Y = pt 1 in let d = var 6 in let e = var 7 in
    prove≡ (pts (x.point ∷ y.point ∷ []) (x.over ∷ y.over ∷ [])) (dot_e X X ⊗ (e ⊗ e)) (dot_e Y Y ⊗ (d ⊗ d))
    (by_eq (con (pos 1)) (dot_e (e ⊗ᵛ X) (e ⊗ᵛ X)) (dot_e (d ⊗ᵛ Y) (d ⊗ᵛ Y)) (ap (λ t. dot t t) s) ∷ []) refl

-- so neither is longer
pub same_no_longer : (x y : Frac) → Same x y → NoLonger x y
same_no_longer x y s = ≤ℤ_of_≡ (same_length x y s)

-- equality passes through a fraction over a positive number
pub same_trans : (x y z : Frac) → pos 0 <ℤ y.over → Same x y → Same y z → Same x z
same_trans x y z p s t =
    let X = pt 0 in let Y = pt 1 in let Z = pt 2 in let d = var 9 in let e = var 10 in let f = var 11 in
    ·ᵛ_cancel y.over p (prove_v (pts (x.point ∷ y.point ∷ z.point ∷ []) (x.over ∷ y.over ∷ z.over ∷ [])) (e ⊗ᵛ (f ⊗ᵛ X)) (e ⊗ᵛ (d ⊗ᵛ Z))
    (by_eq_v f (e ⊗ᵛ X) (d ⊗ᵛ Y) s ∷ by_eq_v d (f ⊗ᵛ Y) (e ⊗ᵛ Z) t ∷ []) refl refl refl)

-- ---- the order by length
-- no longer than what is no longer
pub no_longer_trans : (x y z : Frac) → pos 0 <ℤ y.over → NoLonger x y → NoLonger y z → NoLonger x z
no_longer_trans x y z p h k =
    let X = pt 0 in let Y = pt 1 in let Z = pt 2 in let d = var 9 in let e = var 10 in let f = var 11 in
    *ℤ_cancel≤ (y.over *ℤ y.over) (*ℤ_pos p p) (prove≤ (pts (x.point ∷ y.point ∷ z.point ∷ []) (x.over ∷ y.over ∷ z.over ∷ [])) (e ⊗ e ⊗ (dot_e X X ⊗ (f ⊗ f))) (e ⊗ e ⊗ (dot_e Z Z ⊗ (d ⊗ d)))
    (sq f ⊠ le (dot_e X X ⊗ (e ⊗ e)) (dot_e Y Y ⊗ (d ⊗ d)) h ∷ sq d ⊠ le (dot_e Y Y ⊗ (f ⊗ f)) (dot_e Z Z ⊗ (e ⊗ e)) k ∷ []) refl)

-- no longer than what is shorter
pub shorter_trans : (x y z : Frac) → pos 0 <ℤ x.over → NoLonger x y → Shorter y z → Shorter x z
shorter_trans x y z p h k =
    let X = pt 0 in let Y = pt 1 in let Z = pt 2 in let d = var 9 in let e = var 10 in let f = var 11 in let ρ = pts (x.point ∷ y.point ∷ z.point ∷ []) (x.over ∷ y.over ∷ z.over ∷ []) in
    *ℤ_cancel< (y.over *ℤ y.over) (sq {ρ = ρ} e).holds (prove< ρ (e ⊗ e ⊗ (dot_e X X ⊗ (f ⊗ f))) (e ⊗ e ⊗ (dot_e Z Z ⊗ (d ⊗ d)))
    (sq f ⊠ le (dot_e X X ⊗ (e ⊗ e)) (dot_e Y Y ⊗ (d ⊗ d)) h ∷ lt (d ⊗ d ⊗ (dot_e Y Y ⊗ (f ⊗ f))) (d ⊗ d ⊗ (dot_e Z Z ⊗ (e ⊗ e))) (*ℤ_mono< (*ℤ_pos p p) k) ∷ []) refl)

-- equal or shorter is no longer
pub no_longer : (x y : Frac) → Same x y ⊎ Shorter x y → NoLonger x y
no_longer x y (inl s) = same_no_longer x y s
no_longer x y (inr s) = <ℤ→≤ℤ s

-- and then the other is not shorter
pub not_shorter : (x y : Frac) → NoLonger x y → Shorter y x → ⊥
not_shorter x y h k = clash_ℤ k h

-- ---- squares
-- equal fractions have the same square
pub square-same : (x y : Frac) (p q : ℤ) → pos 0 <ℤ x.over → Same x y → SquareOf x p q → SquareOf y p q
square-same x y p q h s e =
    let n = var 0 in let m = var 1 in let d = var 2 in let f = var 3 in let P = var 4 in let Q = var 5 in
    *ℤ_cancel (x.over *ℤ x.over) (*ℤ_pos h h) (prove≡ (dot x.point x.point ∷ dot y.point y.point ∷ x.over ∷ y.over ∷ p ∷ q ∷ []) (d ⊗ d ⊗ (Q ⊗ m)) (d ⊗ d ⊗ (P ⊗ (f ⊗ f)))
    (by_eq (neg Q) (n ⊗ (f ⊗ f)) (m ⊗ (d ⊗ d)) (same_length x y s) ∷ by_eq (f ⊗ f) (Q ⊗ n) (P ⊗ (d ⊗ d)) e ∷ []) refl)

-- the square is one number
pub square_unique : (x : Frac) (p q r s : ℤ) → pos 0 <ℤ x.over → SquareOf x p q → SquareOf x r s → s *ℤ p ≡ q *ℤ r
square_unique x p q r s h e f =
    let n = var 0 in let w = var 1 in let P = var 2 in let Q = var 3 in let R = var 4 in let S = var 5 in
    *ℤ_cancel (x.over *ℤ x.over) (*ℤ_pos h h) (prove≡ (dot x.point x.point ∷ x.over ∷ p ∷ q ∷ r ∷ s ∷ []) (w ⊗ w ⊗ (S ⊗ P)) (w ⊗ w ⊗ (Q ⊗ R))
    (by_eq (neg S) (Q ⊗ n) (P ⊗ (w ⊗ w)) e ∷ by_eq Q (S ⊗ n) (R ⊗ (w ⊗ w)) f ∷ []) refl)

-- where W k = D·D, the square of D / W is k / W
pub square_of_level : (x : Frac) (k : ℤ) → x.over *ℤ k ≡ dot x.point x.point → SquareOf x k x.over
square_of_level x k e =
    let n = var 0 in let w = var 1 in let K = var 2 in
    prove≡ (dot x.point x.point ∷ x.over ∷ k ∷ []) (w ⊗ n) (K ⊗ (w ⊗ w)) (by_eq (neg w) (w ⊗ K) n e ∷ []) refl

-- the order of the lengths is that of the squares
pub no_longer_by_squares : (x y : Frac) (p q r s : ℤ) → pos 0 <ℤ q → pos 0 <ℤ s → SquareOf x p q → SquareOf y r s → (p *ℤ s) ≤ℤ (r *ℤ q) → NoLonger x y
no_longer_by_squares x y p q r s hq hs e f h =
    let W = var 0 in let V = var 1 in let X = var 2 in let Y = var 3 in let P = var 4 in let Q = var 5 in let R = var 6 in let S = var 7 in
    *ℤ_cancel≤ (q *ℤ s) (*ℤ_pos hq hs) (prove≤ (x.over ∷ y.over ∷ dot x.point x.point ∷ dot y.point y.point ∷ p ∷ q ∷ r ∷ s ∷ []) (Q ⊗ S ⊗ (X ⊗ (V ⊗ V))) (Q ⊗ S ⊗ (Y ⊗ (W ⊗ W)))
    (sq (W ⊗ V) ⊠ le (P ⊗ S) (R ⊗ Q) h ∷ eq (Q ⊗ W ⊗ W) (S ⊗ Y) (R ⊗ (V ⊗ V)) f ∷ eq (neg (S ⊗ V ⊗ V)) (Q ⊗ X) (P ⊗ (W ⊗ W)) e ∷ []) refl)

pub shorter_by_squares : (x y : Frac) (p q r s : ℤ) → pos 0 <ℤ x.over → pos 0 <ℤ y.over → pos 0 <ℤ q → pos 0 <ℤ s → SquareOf x p q → SquareOf y r s → (p *ℤ s) <ℤ (r *ℤ q) → Shorter x y
shorter_by_squares x y p q r s hx hy hq hs e f h =
    let W = var 0 in let V = var 1 in let X = var 2 in let Y = var 3 in let P = var 4 in let Q = var 5 in let R = var 6 in let S = var 7 in let k = W ⊗ W ⊗ (V ⊗ V) in
    *ℤ_cancel< (q *ℤ s) (<ℤ→≤ℤ (*ℤ_pos hq hs)) (prove< (x.over ∷ y.over ∷ dot x.point x.point ∷ dot y.point y.point ∷ p ∷ q ∷ r ∷ s ∷ []) (Q ⊗ S ⊗ (X ⊗ (V ⊗ V))) (Q ⊗ S ⊗ (Y ⊗ (W ⊗ W)))
    (lt (k ⊗ (P ⊗ S)) (k ⊗ (R ⊗ Q)) (*ℤ_mono< (*ℤ_pos (*ℤ_pos hx hx) (*ℤ_pos hy hy)) h) ∷ eq (Q ⊗ W ⊗ W) (S ⊗ Y) (R ⊗ (V ⊗ V)) f ∷ eq (neg (S ⊗ V ⊗ V)) (Q ⊗ X) (P ⊗ (W ⊗ W)) e ∷ []) refl)

-- ---- the plane through x = D / W across D: e D·D ≤ W D·E says that y = E / e is not on its near side
-- that is a fact of the fraction
pub beyond_same : (x y z : Frac) → pos 0 <ℤ y.over → pos 0 <ℤ z.over → Same y z → (z.over *ℤ dot x.point x.point) ≤ℤ (x.over *ℤ dot x.point z.point) → (y.over *ℤ dot x.point x.point) ≤ℤ (x.over *ℤ dot x.point y.point)
beyond_same x y z p q s h =
    let X = pt 0 in let Y = pt 1 in let Z = pt 2 in let d = var 9 in let e = var 10 in let f = var 11 in
    *ℤ_cancel≤ z.over q (prove≤ (pts (x.point ∷ y.point ∷ z.point ∷ []) (x.over ∷ y.over ∷ z.over ∷ [])) (f ⊗ (e ⊗ dot_e X X)) (f ⊗ (d ⊗ dot_e X Y))
    (nn e (<ℤ→≤ℤ p) ⊠ le (f ⊗ dot_e X X) (d ⊗ dot_e X Z) h ∷ eq d (dot_e X (f ⊗ᵛ Y)) (dot_e X (e ⊗ᵛ Z)) (ap (dot x.point) s) ∷ []) refl)

-- what is not on the near side is longer than x by as much as it is apart
beyond : (D : Pt) (W : ℤ) (N : Pt) (d : ℤ) → pos 0 ≤ℤ d → (d *ℤ dot D D) ≤ℤ (W *ℤ dot D N) → (dot D D *ℤ (d *ℤ d) +ℤ dot (d ·ᵛ D -ᵛ W ·ᵛ N) (d ·ᵛ D -ᵛ W ·ᵛ N)) ≤ℤ (dot N N *ℤ (W *ℤ W))
beyond D W N d p h =
    let X = pt 0 in let Y = pt 1 in let w = var 6 in let e = var 7 in let g = e ⊗ᵛ X ⊖ᵛ w ⊗ᵛ Y in
    prove≤ (pts (D ∷ N ∷ []) (W ∷ d ∷ [])) (dot_e X X ⊗ (e ⊗ e) ⊕ dot_e g g) (dot_e Y Y ⊗ (w ⊗ w)) (num 2 ⊠ nn e p ⊠ le (e ⊗ dot_e X X) (w ⊗ dot_e X Y) h ∷ []) refl

-- so it is longer, or x itself
pub same_or_shorter : (x y : Frac) → pos 0 ≤ℤ y.over → (y.over *ℤ dot x.point x.point) ≤ℤ (x.over *ℤ dot x.point y.point) → Same x y ⊎ Shorter x y
same_or_shorter x y p h =
    by_lt_z (dot x.point x.point *ℤ (y.over *ℤ y.over)) (dot y.point y.point *ℤ (x.over *ℤ x.over)) inr
    (λ k. inl (dot_zero (y.over ·ᵛ x.point) (x.over ·ᵛ y.point) (left _ _ _ (beyond x.point x.over y.point y.over p h) k)))
  where
    left : (a g b : ℤ) → (a +ℤ g) ≤ℤ b → b ≤ℤ a → g ≤ℤ pos 0
    left a g b h k = omega (arith, ints)
