-- The farthest corner of a box: the one that is high exactly where the direction's number is above 0.
use Rattle.std.proofs.Common.{◌≡◌, ℕ, ◌≤◌, Bool, true, false, cond, List, [], ◌∷◌, ℤ, pos, nat_abs, ◌+ℤ◌, ◌*ℤ◌, ◌≤ℤ◌, Some, refl, ap, ◌∙◌, arith, lit<}
use lib.Signed.{lt_z}
use Rattle.std.specs.Option.{option_map}
use Rattle.std.specs.List.{ContainsAt as Has, AllByRecursion, slice_get}
use Rattle.std.proofs.ByRecursion.{All-map}
use Rattle.std.proofs.lemmas.Int.{ints}
use Rattle.std.proofs.lemmas.Option.{slice_get-map}
use Rattle.integers.specs.Points.{Pt, dot}
use Rattle.integers.specs.Space.{Near}
use Rattle.integers.proofs.Solver.{var, con, ◌⊗◌, ◌⊖◌}
use Rattle.integers.proofs.Order.{≤ℤ_of_≡, solve≤, *ℤ_nonneg, gap, *ℤ_mono}
use Rattle.parts.specs.declared.octant.Side.{Side}
use Rattle.parts.specs.declared.octant.Side.TheVariants.{Low, High}
use Rattle.parts.specs.declared.octant.Octant.{Octant}
use Rattle.parts.specs.Boxes.{taken, vertex, octants, box, side, towards}

-- l is nowhere above h
pub record Under (l h : Pt) : Type 0 where
  pub x : l.x ≤ℤ h.x
  pub y : l.y ≤ℤ h.y
  pub z : l.z ≤ℤ h.z

same : (k : ℤ) → k ≤ℤ k
same k = ≤ℤ_of_≡ refl

-- a number that is not above 0 turns the order round
turned : (k l h : ℤ) → k ≤ℤ pos 0 → l ≤ℤ h → (k *ℤ h) ≤ℤ (k *ℤ l)
turned k l h n u = solve≤ (k ∷ l ∷ h ∷ []) (var 0 ⊗ var 2) (var 0 ⊗ var 1) ((con (pos 0) ⊖ var 0) ⊗ (var 2 ⊖ var 1)) refl (*ℤ_nonneg (gap n) (gap u))

above : (k : ℤ) → lt_z (pos 0) k ≡ true → pos 0 ≤ℤ k
above k e = omega (arith, ints)

not_above : (k : ℤ) → lt_z (pos 0) k ≡ false → k ≤ℤ pos 0
not_above k e = omega (arith, ints)

-- on one axis, no side lies farther than the one of the direction's number
side-farthest : (k l h : ℤ) (s : Side) → l ≤ℤ h → (k *ℤ taken s l h) ≤ℤ (k *ℤ taken (side k) l h)
side-farthest k l h s u = go (lt_z (pos 0) k) refl s
  where
    go : (b : Bool) → lt_z (pos 0) k ≡ b → (s : Side) → (k *ℤ taken s l h) ≤ℤ (k *ℤ taken (cond b High Low) l h)
    go true e Low = *ℤ_mono (above k e) u
    go true e High = same (k *ℤ h)
    go false e Low = same (k *ℤ l)
    go false e High = turned k l h (not_above k e) u

sums : {a b c p q r : ℤ} → a ≤ℤ p → b ≤ℤ q → c ≤ℤ r → (a +ℤ b +ℤ c) ≤ℤ (p +ℤ q +ℤ r)
sums h k l = omega (arith, ints)

-- no corner of a box lies farther along d than the one towards d
pub vertex-farthest : (d l h : Pt) → Under l h → (o : Octant) → dot d (vertex l h o) ≤ℤ dot d (vertex l h (towards d))
vertex-farthest d l h u o = sums (side-farthest d.x l.x h.x o.x u.x) (side-farthest d.y l.y h.y o.y u.y) (side-farthest d.z l.z h.z o.z u.z)

-- what holds of each corner of a box holds of all
pub box-all : (P : Pt → Type 0) (l h : Pt) → ((o : Octant) → P (vertex l h o)) → AllByRecursion P (box l h)
box-all P l h each = All-map P (vertex l h) octants (every octants)
  where
    every : (os : List Octant) → AllByRecursion (λ o. P (vertex l h o)) os
    every [] = tt
    every (o ∷ os) = (each o, every os)

pub box-farthest : (d l h : Pt) → Under l h → AllByRecursion (λ p. dot d p ≤ℤ dot d (vertex l h (towards d))) (box l h)
box-farthest d l h u = box-all (λ p. dot d p ≤ℤ dot d (vertex l h (towards d))) l h (vertex-farthest d l h u)

-- each corner of a box is listed
pub box_has : (l h : Pt) (o : Octant) → Has (box l h) (vertex l h o)
box_has l h o = listed o.x o.y o.z
  where
    listed : (a b c : Side) → Has (box l h) (record { x = taken a l.x h.x; y = taken b l.y h.y; z = taken c l.z h.z })
    listed Low Low Low = (0, lit< tt, λ d. refl)
    listed Low Low High = (1, lit< tt, λ d. refl)
    listed Low High Low = (2, lit< tt, λ d. refl)
    listed Low High High = (3, lit< tt, λ d. refl)
    listed High Low Low = (4, lit< tt, λ d. refl)
    listed High Low High = (5, lit< tt, λ d. refl)
    listed High High Low = (6, lit< tt, λ d. refl)
    listed High High High = (7, lit< tt, λ d. refl)

-- each corner of a box reaches as far as the low and the high one do
pub vertex-near : (n : ℕ) (l h : Pt) (o : Octant) → Near n l → Near n h → Near n (vertex l h o)
vertex-near n l h o a b = (at_side l.x h.x o.x a.0 b.0, at_side l.y h.y o.y a.1 b.1, at_side l.z h.z o.z a.2 b.2)
  where
    at_side : (k m : ℤ) (s : Side) → nat_abs k ≤ n → nat_abs m ≤ n → nat_abs (taken s k m) ≤ n
    at_side k m Low p q = p
    at_side k m High p q = q

pub box-near : (n : ℕ) (l h : Pt) → Near n l → Near n h → AllByRecursion (Near n) (box l h)
box-near n l h a b = box-all (Near n) l h (λ o. vertex-near n l h o a b)

-- the corner of a box by its number
pub box_nth : (l h : Pt) (k : ℕ) (o : Octant) → slice_get octants k ≡ Some o → slice_get (box l h) k ≡ Some (vertex l h o)
box_nth l h k o e = slice_get-map (vertex l h) octants k ∙ ap (option_map (vertex l h)) e
