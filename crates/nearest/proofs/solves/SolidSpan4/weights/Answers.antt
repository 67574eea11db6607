use Rattle.std.proofs.Common.{◌≡◌, List, ℤ, [], ◌∷◌, pos, ◌+ℤ◌, ◌-ℤ◌, sym, ap, ◌∙◌, w64}
use Rattle.integers.specs.Points.{det}
use Rattle.integers.proofs.Solver.{Exp, var, con, ◌⊕◌, ◌⊖◌}
use Rattle.integers.proofs.Overflow.{Bv, fits, kept_is}
use Rattle.convex.specs.Simplices.{volume, sign}
use Rattle.nearest.specs.declared.simplex.Solid.{Solid}
use Rattle.nearest.specs.Pairs.{between}
use Rattle.nearest.proofs.Pairs.{a-det}
use Rattle.convex.proofs.Simplices.{volume_is}
use Rattle.nearest.proofs.Signs.{sign_minus, sign_plus, once_neg, twice_neg, once, neg_once}
use Rattle.nearest.proofs.solves.SolidSpan4.weights.Goals as goal

-- the four determinants
abbrev env : (s : Solid) {k l m n : ℤ} → k ≡ det (between s.b) (between s.c) (between s.d) → l ≡ det (between s.a) (between s.c) (between s.d) → m ≡ det (between s.a) (between s.b) (between s.d) → n ≡ det (between s.a) (between s.b) (between s.c) → List Bv
env s {k} {l} {m} {n} e f g h = a-det s.b s.c s.d k e (a-det s.a s.c s.d l f (a-det s.a s.b s.d m g (a-det s.a s.b s.c n h [])))

abbrev V : Exp
V = var 0 ⊖ var 1 ⊕ var 2 ⊖ var 3

pub overflow_sub-v : goal.overflow_sub-v
overflow_sub-v c = fits w64 (env c.args.self c.determinant-k.ensures c.determinant-l.ensures c.determinant-m.ensures c.determinant-n.ensures) (var 0 ⊖ var 1) tt

pub overflow_add-v : goal.overflow_add-v
overflow_add-v c = fits w64 (env c.args.self c.determinant-k.ensures c.determinant-l.ensures c.determinant-m.ensures c.determinant-n.ensures) (var 0 ⊖ var 1 ⊕ var 2) tt

pub overflow_sub-v-2 : goal.overflow_sub-v-2
overflow_sub-v-2 c = fits w64 (env c.args.self c.determinant-k.ensures c.determinant-l.ensures c.determinant-m.ensures c.determinant-n.ensures) V tt

pub overflow_sub-result : goal.overflow_sub-result
overflow_sub-result c = fits w64 (env c.args.self c.determinant-k.ensures c.determinant-l.ensures c.determinant-m.ensures c.determinant-n.ensures) (con (pos 0) ⊖ var 0) tt

pub overflow_sub-result-then-v-lt0 : goal.overflow_sub-result-then-v-lt0
overflow_sub-result-then-v-lt0 c = fits w64 (env c.args.self c.determinant-k.ensures c.determinant-l.ensures c.determinant-m.ensures c.determinant-n.ensures) (con (pos 0) ⊖ var 2) tt

pub overflow_sub-result-else-v-lt0 : goal.overflow_sub-result-else-v-lt0
overflow_sub-result-else-v-lt0 c = fits w64 (env c.args.self c.determinant-k.ensures c.determinant-l.ensures c.determinant-m.ensures c.determinant-n.ensures) (con (pos 0) ⊖ var 1) tt

pub overflow_sub-result-else-v-lt0-2 : goal.overflow_sub-result-else-v-lt0-2
overflow_sub-result-else-v-lt0-2 c = fits w64 (env c.args.self c.determinant-k.ensures c.determinant-l.ensures c.determinant-m.ensures c.determinant-n.ensures) (con (pos 0) ⊖ var 3) tt

pub returns-then-v-lt0 : goal.returns-then-v-lt0
returns-then-v-lt0 c =
    let ρ = env c.args.self c.determinant-k.ensures c.determinant-l.ensures c.determinant-m.ensures c.determinant-n.ensures in
    let s = sign (volume (between c.args.self.a) (between c.args.self.b) (between c.args.self.c) (between c.args.self.d)) in
    let e = volume_is (between c.args.self.a) (between c.args.self.b) (between c.args.self.c) (between c.args.self.d) ∙ (λ i. sym c.determinant-k.ensures i -ℤ sym c.determinant-l.ensures i +ℤ sym c.determinant-m.ensures i -ℤ sym c.determinant-n.ensures i) in
    let sg = sign_minus e (rw (kept_is w64 ρ V tt) at c.if-v-lt0.true) in
    λ i. (once_neg s sg (det (between c.args.self.b) (between c.args.self.c) (between c.args.self.d)) ∙ ap (λ t. pos 0 -ℤ t) (sym c.determinant-k.ensures) ∙ sym (kept_is w64 ρ (con (pos 0) ⊖ var 0) tt)) i
    ∷ ((twice_neg s sg (det (between c.args.self.a) (between c.args.self.c) (between c.args.self.d)) ∙ sym c.determinant-l.ensures ∙ sym (kept_is w64 ρ (var 1) tt)) i
    ∷ ((once_neg s sg (det (between c.args.self.a) (between c.args.self.b) (between c.args.self.d)) ∙ ap (λ t. pos 0 -ℤ t) (sym c.determinant-m.ensures) ∙ sym (kept_is w64 ρ (con (pos 0) ⊖ var 2) tt)) i
    ∷ ((twice_neg s sg (det (between c.args.self.a) (between c.args.self.b) (between c.args.self.c)) ∙ sym c.determinant-n.ensures ∙ sym (kept_is w64 ρ (var 3) tt)) i ∷ [])))

pub returns-else-v-lt0 : goal.returns-else-v-lt0
returns-else-v-lt0 c =
    let ρ = env c.args.self c.determinant-k.ensures c.determinant-l.ensures c.determinant-m.ensures c.determinant-n.ensures in
    let s = sign (volume (between c.args.self.a) (between c.args.self.b) (between c.args.self.c) (between c.args.self.d)) in
    let e = volume_is (between c.args.self.a) (between c.args.self.b) (between c.args.self.c) (between c.args.self.d) ∙ (λ i. sym c.determinant-k.ensures i -ℤ sym c.determinant-l.ensures i +ℤ sym c.determinant-m.ensures i -ℤ sym c.determinant-n.ensures i) in
    let sg = sign_plus e (rw (kept_is w64 ρ V tt) at c.if-v-lt0.false) in
    λ i. (once s sg (det (between c.args.self.b) (between c.args.self.c) (between c.args.self.d)) ∙ sym c.determinant-k.ensures ∙ sym (kept_is w64 ρ (var 0) tt)) i
    ∷ ((neg_once s sg (det (between c.args.self.a) (between c.args.self.c) (between c.args.self.d)) ∙ ap (λ t. pos 0 -ℤ t) (sym c.determinant-l.ensures) ∙ sym (kept_is w64 ρ (con (pos 0) ⊖ var 1) tt)) i
    ∷ ((once s sg (det (between c.args.self.a) (between c.args.self.b) (between c.args.self.d)) ∙ sym c.determinant-m.ensures ∙ sym (kept_is w64 ρ (var 2) tt)) i
    ∷ ((neg_once s sg (det (between c.args.self.a) (between c.args.self.b) (between c.args.self.c)) ∙ ap (λ t. pos 0 -ℤ t) (sym c.determinant-n.ensures) ∙ sym (kept_is w64 ρ (con (pos 0) ⊖ var 3) tt)) i ∷ [])))
