-- An equation of points from equations of points, as `prove≡` has it for integers: l − r = k₁ (p₁ − q₁) + …
use Rattle.std.proofs.Common.{◌≡◌, List, [], ◌∷◌, ℤ, pos, ◌<ℤ◌, ap}
use Rattle.integers.specs.Points.{Pt, ◌·ᵛ◌}
use Rattle.integers.proofs.Solver.{Exp, residue, nil, ◌⊕◌}
use Rattle.integers.proofs.Vectors.{V, eval_v}
use Rattle.integers.proofs.Order.{*ℤ_cancel}
use Rattle.integers.proofs.Certs.{Eqn, by_eq, sum, prove≡}

pub record EqnV (ρ : List ℤ) : Type 0 where
  pub factor : Exp
  pub left : V
  pub right : V
  pub holds : eval_v ρ left ≡ eval_v ρ right

abbrev pub by_eq_v : {ρ : List ℤ} (k : Exp) (p q : V) → eval_v ρ p ≡ eval_v ρ q → EqnV ρ
by_eq_v k p q e = record { factor = k; left = p; right = q; holds = e }

abbrev pub along_x : {ρ : List ℤ} → List (EqnV ρ) → List (Eqn ρ)
along_x [] = []
along_x (f ∷ fs) = by_eq f.factor f.left.x f.right.x (ap (λ t. t.x) f.holds) ∷ along_x fs

abbrev pub along_y : {ρ : List ℤ} → List (EqnV ρ) → List (Eqn ρ)
along_y [] = []
along_y (f ∷ fs) = by_eq f.factor f.left.y f.right.y (ap (λ t. t.y) f.holds) ∷ along_y fs

abbrev pub along_z : {ρ : List ℤ} → List (EqnV ρ) → List (Eqn ρ)
along_z [] = []
along_z (f ∷ fs) = by_eq f.factor f.left.z f.right.z (ap (λ t. t.z) f.holds) ∷ along_z fs

pub prove_v : (ρ : List ℤ) (l r : V) (fs : List (EqnV ρ)) → residue l.x (r.x ⊕ sum (along_x fs)) ≡ nil → residue l.y (r.y ⊕ sum (along_y fs)) ≡ nil → residue l.z (r.z ⊕ sum (along_z fs)) ≡ nil → eval_v ρ l ≡ eval_v ρ r
prove_v ρ l r fs p q s i = record { x = prove≡ ρ l.x r.x (along_x fs) p i; y = prove≡ ρ l.y r.y (along_y fs) q i; z = prove≡ ρ l.z r.z (along_z fs) s i }

pub ·ᵛ_cancel : (k : ℤ) {a b : Pt} → pos 0 <ℤ k → k ·ᵛ a ≡ k ·ᵛ b → a ≡ b
·ᵛ_cancel k p e i = record { x = *ℤ_cancel k p (ap (λ t. t.x) e) i; y = *ℤ_cancel k p (ap (λ t. t.y) e) i; z = *ℤ_cancel k p (ap (λ t. t.z) e) i }
