-- A corner w on the near side of the plane through x = D / W across D, where W D·w < D·D, brings a shorter mean in reach.
use Rattle.std.proofs.Common.{◌≡◌, List, [], ◌∷◌, ◌++◌, length, ℤ, pos, ◌+ℤ◌, ◌-ℤ◌, ◌*ℤ◌, ◌≤ℤ◌, ◌<ℤ◌, sym, refl, ◌∙◌}
use Rattle.std.specs.List.{ContainsAt as Has}
use Rattle.std.proofs.ByRecursion.{All-weaker, all_has_itself, has_append_left, has_push}
use Rattle.integers.specs.Points.{Pt, ◌+ᵛ◌, ◌-ᵛ◌, ◌·ᵛ◌, dot}
use Rattle.integers.proofs.Solver.{var, con, ◌⊕◌, ◌⊗◌, ◌⊖◌, solve}
use Rattle.integers.proofs.Vectors.{◌⊕ᵛ◌, ◌⊖ᵛ◌, ◌⊗ᵛ◌, dot_e, pt, pts}
use Rattle.integers.proofs.VectorCerts.{by_eq_v, prove_v}
use Rattle.integers.proofs.Order.{<ℤ→≤ℤ, solve<, gap<, +ℤ_pos, *ℤ_nonneg, *ℤ_pos}
use Rattle.integers.proofs.Squares.{dot_nonneg}
use Rattle.convex.specs.Fractions.{Frac, ◌÷◌, Shorter}
use Rattle.convex.specs.Means.{Mean}
use Rattle.convex.specs.Hulls.{comb, totalℤ, Shortest}
use Rattle.convex.proofs.Combs.{mix, length_mix, comb_mix, total_mix, nonneg_mix}
use Rattle.convex.proofs.Fractions.{shorter_trans}
use Rattle.convex.proofs.Hulls.{mean→hull, hull→mean}
use Rattle.convex.proofs.Members.{mean-among, mean_corner}

-- a point between x and y
abbrev pub mixed : ℤ → ℤ → Frac → Frac → Frac
mixed p q x y = p ·ᵛ x.point +ᵛ q ·ᵛ y.point ÷ p *ℤ x.over +ℤ q *ℤ y.over

-- between two means is a mean
pub mean-between : {ys : List Pt} {x y : Frac} (p q : ℤ) → pos 0 ≤ℤ p → pos 0 <ℤ q → Mean ys x → Mean ys y → Mean ys (mixed p q x y)
mean-between {ys} {x} {y} p q hp hq m n =
    let g = mean→hull m in let h = mean→hull n in let ks = g.ks in let js = h.ks in let s = p *ℤ x.over *ℤ totalℤ js in let t = q *ℤ y.over *ℤ totalℤ ks in
    let l : length ks ≡ length js = g.one_each ∙ sym h.one_each in
    let hs : pos 0 ≤ℤ s = *ℤ_nonneg (*ℤ_nonneg hp (<ℤ→≤ℤ g.positive)) (<ℤ→≤ℤ h.some) in let ht : pos 0 <ℤ t = *ℤ_pos (*ℤ_pos hq h.positive) g.some in
    let N = pt 0 in let M = pt 1 in let X = pt 2 in let Y = pt 3 in
    let P = var 12 in let Q = var 13 in let D = var 14 in let E = var 15 in let K = var 16 in let J = var 17 in let S = P ⊗ D ⊗ J in let T = Q ⊗ E ⊗ K in let r = P ⊗ D ⊕ Q ⊗ E in
    hull→mean (record {
      ks = mix s t ks js;
      one_each = length_mix s t ks js l ∙ g.one_each;
      nonneg = nonneg_mix s t ks js hs (<ℤ→≤ℤ ht) g.nonneg h.nonneg;
      some = rw (total_mix s t ks js l) (+ℤ_pos (*ℤ_nonneg hs (<ℤ→≤ℤ g.some)) (*ℤ_pos ht h.some));
      positive = +ℤ_pos (*ℤ_nonneg hp (<ℤ→≤ℤ g.positive)) (*ℤ_pos hq h.positive);
      value = rw (total_mix s t ks js l, comb_mix s t ks js ys l) (prove_v (pts (x.point ∷ y.point ∷ comb ks ys ∷ comb js ys ∷ []) (p ∷ q ∷ x.over ∷ y.over ∷ totalℤ ks ∷ totalℤ js ∷ []))
          ((S ⊗ K ⊕ T ⊗ J) ⊗ᵛ (P ⊗ᵛ N ⊕ᵛ Q ⊗ᵛ M)) (r ⊗ᵛ (S ⊗ᵛ X ⊕ᵛ T ⊗ᵛ Y)) (by_eq_v (r ⊗ P ⊗ J) (K ⊗ᵛ N) (D ⊗ᵛ X) g.value ∷ by_eq_v (r ⊗ Q ⊗ K) (J ⊗ᵛ M) (E ⊗ᵛ Y) h.value ∷ []) refl refl refl);
    })

-- ---- towards w
-- weights that make a point between x and w shorter than x
pub record Nearer (x : Frac) (w : Pt) : Type 0 where
  pub here : ℤ
  pub there : ℤ
  pub here≥ : pos 0 ≤ℤ here
  pub there> : pos 0 <ℤ there
  pub shorter : Shorter (mixed here there x (w ÷ pos 1)) x

module _ (x : Frac) (w : Pt) where
  abbrev step : ℤ
  step = dot x.point x.point -ℤ x.over *ℤ dot x.point w

  -- |W w − D|²
  abbrev apart : ℤ
  apart = x.over *ℤ x.over *ℤ dot w w -ℤ pos 2 *ℤ (x.over *ℤ dot x.point w) +ℤ dot x.point x.point

  apart≥ : pos 0 ≤ℤ apart
  apart≥ =
      let d = pt 0 in let v = pt 1 in let k = var 6 in let g = k ⊗ᵛ v ⊖ᵛ d in
      rw (solve (pts (x.point ∷ w ∷ []) (x.over ∷ [])) (k ⊗ k ⊗ dot_e v v ⊖ con (pos 2) ⊗ (k ⊗ dot_e d v) ⊕ dot_e d d) (dot_e g g) refl) (dot_nonneg (x.over ·ᵛ w -ᵛ x.point))

  -- with N / d for the point: |D|² d² − |N|² W² = W² step² (2 step + apart)
  pub nearer : pos 0 <ℤ x.over → (x.over *ℤ dot x.point w) <ℤ dot x.point x.point → Nearer x w
  nearer p h =
      let k = var 0 in let dd = var 1 in let dw = var 2 in let ww = var 3 in let one = con (pos 1) in let two = con (pos 2) in
      let g = dd ⊖ k ⊗ dw in let e = k ⊗ k ⊗ ww ⊖ two ⊗ (k ⊗ dw) ⊕ dd in let s = g ⊗ k in let d = e ⊗ k ⊕ s ⊗ one in
      record {
        here = apart;
        there = step *ℤ x.over;
        here≥ = apart≥;
        there> = *ℤ_pos (gap< h) p;
        shorter = rw (square x.point w apart (step *ℤ x.over)) (solve< (x.over ∷ dot x.point x.point ∷ dot x.point w ∷ dot w w ∷ []) ((e ⊗ e ⊗ dd ⊕ two ⊗ e ⊗ s ⊗ dw ⊕ s ⊗ s ⊗ ww) ⊗ (k ⊗ k)) (dd ⊗ (d ⊗ d)) (k ⊗ k ⊗ (g ⊗ g) ⊗ (e ⊕ (g ⊕ g))) refl
            (*ℤ_pos (*ℤ_pos (*ℤ_pos p p) (*ℤ_pos (gap< h) (gap< h))) (+ℤ_pos apart≥ (+ℤ_pos (<ℤ→≤ℤ (gap< h)) (gap< h)))));
      }
    where
      square : (a b : Pt) (p q : ℤ) → dot (p ·ᵛ a +ᵛ q ·ᵛ b) (p ·ᵛ a +ᵛ q ·ᵛ b) ≡ p *ℤ p *ℤ dot a a +ℤ pos 2 *ℤ p *ℤ q *ℤ dot a b +ℤ q *ℤ q *ℤ dot b b
      square a b p q =
          let A = pt 0 in let B = pt 1 in let P = var 6 in let Q = var 7 in let c = P ⊗ᵛ A ⊕ᵛ Q ⊗ᵛ B in
          solve (pts (a ∷ b ∷ []) (p ∷ q ∷ [])) (dot_e c c) (P ⊗ P ⊗ dot_e A A ⊕ con (pos 2) ⊗ P ⊗ Q ⊗ dot_e A B ⊕ Q ⊗ Q ⊗ dot_e B B) refl

-- so the shortest mean is shorter than x
progress : {ys : List Pt} (x y : Frac) (w : Pt) → Mean ys x → Mean ys (w ÷ pos 1) → (x.over *ℤ dot x.point w) <ℤ dot x.point x.point → Shortest ys y → Shorter y x
progress x y w m n h s =
    let t = nearer x w m.positive h in let z = mixed t.here t.there x (w ÷ pos 1) in
    shorter_trans y z x s.reached.positive (s.least z (mean-between t.here t.there t.here≥ t.there> m n)) t.shorter

-- with one more corner
pub progress_push : (S : List Pt) (x y : Frac) (w : Pt) → Mean S x → (x.over *ℤ dot x.point w) <ℤ dot x.point x.point → Shortest (S ++ w ∷ []) y → Shorter y x
progress_push S x y w m h s = progress x y w (mean-among (All-weaker (Has S) (Has (S ++ w ∷ [])) (λ y i. has_append_left S (w ∷ []) y i) S (all_has_itself S)) m) (mean_corner (has_push S w)) h s
