-- The shortest mean of a simplex whose foot lies outside, from those of its faces.
use Rattle.std.proofs.Common.{◌≡◌, ℕ, suc, ◌<◌, List, length, get_or, ℤ, pos, ◌≤ℤ◌, ◌<ℤ◌, subst, ap₂, arith}
use Rattle.integers.specs.Points.{Pt}
use Rattle.convex.specs.Fractions.{Frac, ◌÷◌, NoLonger}
use Rattle.convex.specs.Means.{Mean}
use Rattle.convex.specs.Hulls.{totalℤ, Shortest, without}
use Rattle.convex.specs.Simplices.{Foot}
use Rattle.convex.proofs.Combs.{Nonneg, length_without, comb-without, total-without, all_without}
use Rattle.convex.proofs.Fractions.{no_longer_trans}
use Rattle.convex.proofs.Hulls.{weighed, mean-weighed, least_by_weights}
use Rattle.convex.proofs.Descent.{Descent, descent}

-- the point that a descent leads to, as a mean of the face
on_face : {ys : List Pt} {m ks : List ℤ} (t : Descent ys m ks) → Mean (without t.i ys) (weighed t.to ys)
on_face {ys} t =
    let i = t.i in let whole = total-without i t.to t.none in
    subst (Mean (without i ys)) (ap₂ ◌÷◌ (comb-without i t.to ys t.none) whole)
    (mean-weighed (without i t.to) (shorten (length_without i t.to (omega (arith, t.inside, t.one_each))) (length_without i ys t.inside) t.one_each) (all_without _ i t.to t.nonneg) (rw whole t.some))
  where
    shorten : {a b c d : ℕ} → suc a ≡ b → suc c ≡ d → b ≡ d → a ≡ c
    shorten p q r = omega arith

-- a mean that is no longer than any of the faces where the foot has a weight that is not positive
pub faces_shortest : {ys : List Pt} {m : List ℤ} {f : Frac} → Foot ys m f → pos 0 <ℤ f.over → (j : ℕ) → j < length ys → get_or m j (pos 0) ≤ℤ pos 0 → (x : Frac) → Mean ys x → ((i : ℕ) → i < length ys → get_or m i (pos 0) ≤ℤ pos 0 → (y : Frac) → Mean (without i ys) y → NoLonger x y) → Shortest ys x
faces_shortest {ys} f p j j< out x r faces = record { reached = r; least = least_by_weights x at }
  where
    at : (ks : List ℤ) → length ks ≡ length ys → Nonneg ks → pos 0 <ℤ totalℤ ks → NoLonger x (weighed ks ys)
    at ks l n h =
        let t = descent f p j j< out ks l n h in
        no_longer_trans x (weighed t.to ys) (weighed ks ys) t.some (faces t.i t.inside t.leaves _ (on_face t)) t.no_longer
