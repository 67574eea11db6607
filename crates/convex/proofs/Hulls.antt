-- Points of a hull, by integer weights: affine (of any sign) and convex (none negative).
use Rattle.std.proofs.Common.{◌≡◌, List, [], ◌∷◌, map, length, ℤ, pos, ◌*ℤ◌, nat_abs, ◌<ℤ◌, sym, refl, ap, ◌∙◌, subst, ap₂, ltb→lt}
use Rattle.std.proofs.ByRecursion.{All-weaker}
use Rattle.integers.specs.Points.{Pt, ◌·ᵛ◌, dot}
use Rattle.integers.proofs.Solver.{var, con, ◌⊗◌, solve}
use Rattle.integers.proofs.Vectors.{◌⊖ᵛ◌, ◌⊗ᵛ◌, dot_e, pt, pts}
use Rattle.integers.proofs.Certs.{prove≤, sq, eq}
use Rattle.convex.specs.Fractions.{Frac, ◌÷◌, Same, NoLonger}
use Rattle.convex.specs.Means.{total, Mean}
use Rattle.convex.specs.Hulls.{comb, totalℤ, Shortest}
use Rattle.convex.specs.Simplices.{Foot}
use Rattle.convex.proofs.Combs.{Nonneg, dot-comb, naturals_nonneg, total_naturals, comb_naturals, length_naturals, as_naturals, some_weight}
use Rattle.convex.proofs.Fractions.{same_no_longer, no_longer_trans}

-- Σ kᵢ yᵢ / Σ kᵢ, with weights of any sign
abbrev pub weighed : List ℤ → List Pt → Frac
weighed ks ys = comb ks ys ÷ totalℤ ks

-- ---- a mean, by integer weights
pub record Hull (ys : List Pt) (x : Frac) : Type 0 where
  pub ks : List ℤ
  pub one_each : length ks ≡ length ys
  pub nonneg : Nonneg ks
  pub some : pos 0 <ℤ totalℤ ks
  pub positive : pos 0 <ℤ x.over
  pub value : Same x (weighed ks ys)

-- a mean has such weights, and they make a mean
pub mean→hull : {ys : List Pt} {x : Frac} → Mean ys x → Hull ys x
mean→hull {ys} m =
    let u = m.by.each in
    record {
      ks = map pos u;
      one_each = length_naturals u ∙ m.by.one_each;
      nonneg = naturals_nonneg u;
      some = rw (total_naturals u) (some_weight m.by);
      positive = m.positive;
      value = rw (total_naturals u, comb_naturals u ys) m.value;
    }

pub hull→mean : {ys : List Pt} {x : Frac} → Hull ys x → Mean ys x
hull→mean {ys} {x} h =
    let u = map nat_abs h.ks in let e = as_naturals h.ks h.nonneg in let t : totalℤ h.ks ≡ pos (total u) = ap totalℤ (sym e) ∙ total_naturals u in
    record {
      by = record { each = u; one_each = sym (length_naturals u) ∙ ap length e ∙ h.one_each; some = ltb→lt 0 (total u) (subst (λ z. pos 0 <ℤ z) t h.some).lt };
      positive = h.positive;
      value = subst (Same x) (ap₂ ◌÷◌ (ap (λ k. comb k ys) (sym e) ∙ comb_naturals u ys) t) h.value;
    }

-- weights that are not negative give a mean
pub mean-weighed : {ys : List Pt} (ks : List ℤ) → length ks ≡ length ys → Nonneg ks → pos 0 <ℤ totalℤ ks → Mean ys (weighed ks ys)
mean-weighed ks l n h = hull→mean (record { ks = ks; one_each = l; nonneg = n; some = h; positive = h; value = refl })

-- ---- the foot is the shortest point of the affine hull
module _ {ys : List Pt} {m : List ℤ} {x : Frac} (f : Foot ys m x) (ks : List ℤ) (l : length ks ≡ length ys) where
  -- each point of the affine hull is as far along as the foot
  pub level-weighed : x.over *ℤ dot x.point (comb ks ys) ≡ totalℤ ks *ℤ dot x.point x.point
  level-weighed = sym (out (comb ks ys)) ∙ dot-comb (x.over ·ᵛ x.point) (dot x.point x.point) ks ys l (All-weaker _ _ (λ y e. out y ∙ e) ys f.level)
    where
      out : (y : Pt) → dot (x.over ·ᵛ x.point) y ≡ x.over *ℤ dot x.point y
      out y = solve (pts (x.point ∷ y ∷ []) (x.over ∷ [])) (dot_e (var 6 ⊗ᵛ pt 0) (pt 1)) (var 6 ⊗ dot_e (pt 0) (pt 1)) refl

  -- so none is shorter
  pub affine_least : NoLonger x (weighed ks ys)
  affine_least =
      let X = pt 0 in let Y = pt 1 in let w = var 6 in let a = var 7 in let g = w ⊗ᵛ Y ⊖ᵛ a ⊗ᵛ X in
      prove≤ (pts (x.point ∷ comb ks ys ∷ []) (x.over ∷ totalℤ ks ∷ [])) (dot_e X X ⊗ (a ⊗ a)) (dot_e Y Y ⊗ (w ⊗ w))
      (sq g.x ∷ sq g.y ∷ sq g.z ∷ eq (con (pos 2) ⊗ a) (w ⊗ dot_e X Y) (a ⊗ dot_e X X) level-weighed ∷ []) refl

-- what is no longer than each point with weights that are not negative is no longer than any mean
pub least_by_weights : {ys : List Pt} (x : Frac) → ((ks : List ℤ) → length ks ≡ length ys → Nonneg ks → pos 0 <ℤ totalℤ ks → NoLonger x (weighed ks ys)) → (y : Frac) → Mean ys y → NoLonger x y
least_by_weights {ys} x least y m = let h = mean→hull m in no_longer_trans x (weighed h.ks ys) y h.some (least h.ks h.one_each h.nonneg h.some) (same_no_longer (weighed h.ks ys) y (sym h.value))

-- a foot with no negative weight is the shortest mean
pub foot-shortest : {ys : List Pt} {m : List ℤ} {x : Frac} → Foot ys m x → pos 0 <ℤ x.over → Nonneg m → Shortest ys x
foot-shortest {ys} {m} {x} f p n = record {
  reached = hull→mean (record { ks = m; one_each = f.one_each; nonneg = n; some = subst (λ z. pos 0 <ℤ z) f.whole p; positive = p; value = ap₂ ◌·ᵛ◌ (sym f.whole) f.sum });
  least = least_by_weights x (λ ks l _ _. affine_least f ks l);
}
