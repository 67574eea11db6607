-- A farthest corner of a part gives one of the part in a pose: turned, offset, and moved by the travel where that lies along the direction.
use Rattle.std.proofs.Common.{◌≡◌, ◌+◌, Bool, true, false, cond, List, [], ◌∷◌, ◌++◌, map, ℤ, pos, ◌+ℤ◌, nat_abs, ◌≤ℤ◌, ◌<ℤ◌, Ok, Err, sym, refl, ap, ◌∙◌, subst, ap₂, arith, eqb-true}
use lib.Signed.{lt_z}
use Rattle.std.proofs.ByRecursion.{All-append, All-map, All-weaker, has_append_left, has_append_right}
use Rattle.std.proofs.lemmas.Int.{ints}
use Rattle.integers.specs.Points.{Pt, ◌+ᵛ◌, dot, origin}
use Rattle.integers.proofs.Order.{≤ℤ_trans}
use Rattle.integers.proofs.Solver.{con, solve}
use Rattle.integers.proofs.Vectors.{dot_e, origin_e, P₀, pts}
use Rattle.convex.specs.Hulls.{Farthest, Found}
use Rattle.exact.specs.Spots.{Corner, spot, PartCorner}
use Rattle.exact.specs.Space.{at}
use Rattle.parts.specs.Books.{Part}
use Rattle.poses.specs.declared.turn.Turn.{Turn}
use Rattle.poses.specs.declared.pose.Pose.{Pose}
use Rattle.poses.specs.Poses.{turned, back, placed, still, swept, posed, farther}
use Rattle.parts.proofs.Farthests.{dot-sum, farthest-map}
use Rattle.poses.proofs.Products.{dot-turned, plus_assoc}

-- a farthest corner, turned and offset
farthest-placed : (t : Turn) (o d : Pt) (ps : List Pt) (p : Pt) → Farthest ps (turned (back t) d) p → Farthest (map (placed t o) ps) d (placed t o p)
farthest-placed t o d ps p h = farthest-map (placed t o) d (turned (back t) d) (dot d o) product ps p h
  where
    product : (x : Pt) → dot d (placed t o x) ≡ dot (turned (back t) d) x +ℤ dot d o
    product x = dot-sum d (turned t x) o ∙ ap (λ (k : ℤ). k +ℤ dot d o) (dot-turned t d x)

-- ---- lists that are swept
-- a travel of no length has the product 0
still_zero : (v d : Pt) → still v ≡ true → dot d v ≡ pos 0
still_zero v d e =
    let z : nat_abs v.x + nat_abs v.y + nat_abs v.z ≡ 0 = eqb-true _ 0 e in
    let ex : v.x ≡ pos 0 = omega (arith, ints) in let ey : v.y ≡ pos 0 = omega (arith, ints) in let ez : v.z ≡ pos 0 = omega (arith, ints) in
    let is : v ≡ origin = λ i. record { x = ex i; y = ey i; z = ez i } in
    ap (dot d) is ∙ solve (pts (d ∷ []) []) (dot_e P₀ origin_e) (con (pos 0)) refl

-- a sum with a number that is not above 0, and with one that is
less_sum : {a b k : ℤ} → b ≡ a +ℤ k → k ≤ℤ pos 0 → b ≤ℤ a
less_sum e h = omega (arith, ints)

more_sum : {a b k : ℤ} → b ≡ a +ℤ k → pos 0 <ℤ k → a ≤ℤ b
more_sum e h = omega (arith, ints)

module _ (v d : Pt) (ps : List Pt) (p : Pt) (h : Farthest ps d p) where
  -- with a travel that goes along d it is the moved corner, and else the corner itself
  pub farthest_there : pos 0 <ℤ dot d v → Farthest (swept v ps) d (p +ᵛ v)
  farthest_there l = go (still v) refl
    where
      moved : Farthest (map (λ x. x +ᵛ v) ps) d (p +ᵛ v)
      moved = farthest-map (λ x. x +ᵛ v) d d (dot d v) (λ x. dot-sum d x v) ps p h

      go : (b : Bool) → still v ≡ b → Farthest (cond b ps (ps ++ map (λ x. x +ᵛ v) ps)) d (p +ᵛ v)
      go true e = absurd (omega (arith, ints, still_zero v d e))
      go false e = record {
        one = has_append_right ps (map (λ x. x +ᵛ v) ps) (p +ᵛ v) moved.one;
        most = All-append _ ps (map (λ x. x +ᵛ v) ps) (All-weaker _ _ (λ x k. ≤ℤ_trans k (more_sum (dot-sum d p v) l)) ps h.most) moved.most;
      }

  pub farthest_here : dot d v ≤ℤ pos 0 → Farthest (swept v ps) d p
  farthest_here l = go (still v)
    where
      go : (b : Bool) → Farthest (cond b ps (ps ++ map (λ x. x +ᵛ v) ps)) d p
      go true = h
      go false = record {
        one = has_append_left ps (map (λ x. x +ᵛ v) ps) p h.one;
        most = All-append _ ps (map (λ x. x +ᵛ v) ps) h.most (All-map _ (λ x. x +ᵛ v) ps (All-weaker _ _ (λ x k. ≤ℤ_trans (less_sum (dot-sum d x v) l) k) ps h.most));
      }

-- ---- a part in a pose
-- the travel has a product above 0 exactly where its end has a larger one than its start
above : (a b k : ℤ) → b ≡ a +ℤ k → lt_z a b ≡ true → pos 0 <ℤ k
above a b k e h = omega (arith, ints)

not_above : (a b k : ℤ) → b ≡ a +ℤ k → lt_z a b ≡ false → k ≤ℤ pos 0
not_above a b k e h = omega (arith, ints)

-- a farthest corner of a part, turned and moved by the farther end of the travel
pub farthest-posed : (s : Pose) (ps : List Pt) (d p : Pt) → Farthest ps (turned (back s.turn) d) p → Farthest (swept (at s.travel) (map (placed s.turn (at s.offset)) ps)) d (turned s.turn p +ᵛ farther d s)
farthest-posed s ps d p h =
    let start = at s.offset in let v = at s.travel in let qs = map (placed s.turn start) ps in
    let ends : dot d (start +ᵛ v) ≡ dot d start +ℤ dot d v = dot-sum d start v in
    let far : Farthest qs d (turned s.turn p +ᵛ start) = farthest-placed s.turn start d ps p h in
    let go : (b : Bool) → lt_z (dot d start) (dot d (start +ᵛ v)) ≡ b → Farthest (swept v qs) d (turned s.turn p +ᵛ cond b (start +ᵛ v) start) =
    λ b. elim b as (λ b. lt_z (dot d start) (dot d (start +ᵛ v)) ≡ b → Farthest (swept v qs) d (turned s.turn p +ᵛ cond b (start +ᵛ v) start)) [
      | true ↦ λ e. subst (Farthest (swept v qs) d) (sym (plus_assoc (turned s.turn p) start v)) (farthest_there v d qs (turned s.turn p +ᵛ start) far (above (dot d start) (dot d (start +ᵛ v)) (dot d v) ends e))
      | false ↦ λ e. farthest_here v d qs (turned s.turn p +ᵛ start) far (not_above (dot d start) (dot d (start +ᵛ v)) (dot d v) ends e)
    ] in
    go (lt_z (dot d start) (dot d (start +ᵛ v))) refl

-- sums with one number compare as what is added
lt_sum : (k a b : ℤ) → lt_z (k +ℤ a) (k +ℤ b) ≡ lt_z a b
lt_sum k a b = go (lt_z (k +ℤ a) (k +ℤ b)) (lt_z a b) refl refl
  where
    go : (x y : Bool) → lt_z (k +ℤ a) (k +ℤ b) ≡ x → lt_z a b ≡ y → x ≡ y
    go true true e f = refl
    go false false e f = refl
    go true false e f = absurd (omega (arith, ints))
    go false true e f = absurd (omega (arith, ints))

-- a corner c at the two ends of the travel, m and n: they compare along d as the ends themselves do
pub moved_farther : (s : Pose) (d c m n : Pt) (b : Bool) → m ≡ c +ᵛ at s.offset → n ≡ c +ᵛ (at s.offset +ᵛ at s.travel) → lt_z (dot d m) (dot d n) ≡ b → cond b n m ≡ c +ᵛ farther d s
moved_farther s d c m n b e f t =
    let start = at s.offset in let end = start +ᵛ at s.travel in
    let same : lt_z (dot d start) (dot d end) ≡ b =
    sym (lt_sum (dot d c) (dot d start) (dot d end)) ∙ sym (ap₂ lt_z (ap (dot d) e ∙ dot-sum d c start) (ap (dot d) f ∙ dot-sum d c end)) ∙ t in
    ap₂ (cond b) f e ∙ both b ∙ ap (λ x. c +ᵛ cond x end start) (sym same)
  where
    both : (x : Bool) → cond x (c +ᵛ (at s.offset +ᵛ at s.travel)) (c +ᵛ at s.offset) ≡ c +ᵛ cond x (at s.offset +ᵛ at s.travel) (at s.offset)
    both true = refl
    both false = refl

-- the answer of the part's book, asked along d turned back, gives that of the part in a pose: turned to q, and moved to r
pub found-posed : (s : Pose) (m : Part) (d f : Pt) (c q : PartCorner) (r : Corner) → f ≡ turned (back s.turn) d → spot q ≡ turned s.turn (spot c) → spot r ≡ spot q +ᵛ farther d s → Found spot m f (Ok c) → Found spot (posed s m) d (Ok r)
found-posed s (Ok ps) d f c q r h k is g = subst (Farthest _ d) (sym (is ∙ ap (λ p. p +ᵛ farther d s) k)) (farthest-posed s ps d (spot c) (subst (λ v. Farthest ps v (spot c)) h g))
found-posed s (Err t) d f c q r h k is g = absurd g
