-- The first best of the candidates seen so far, and one candidate more, under any total order.
use Rattle.std.proofs.Common.{◌≡◌, Bool, true, false, not, List, [], ◌∷◌, ◌++◌, sym, refl, ap, ◌∙◌, append_assoc}
use Rattle.std.specs.declared.cmp.Ordering.{Ordering}
use Rattle.std.specs.declared.cmp.Ordering.TheVariants.{Less, Equal, Greater}
use Rattle.std.specs.Ordering.{ordering_reverse, is_gt}
use Rattle.std.specs.Cmp.{IsTotalOrder}
use Rattle.std.proofs.lemmas.Cmp.{upto}
use Rattle.std.proofs.ByRecursion.{All-push, All-weaker}
use Rattle.search.specs.Firsts.{FirstBest, no_better}

module _ {X : Type 0} (cmp : X → X → Ordering) (order : IsTotalOrder cmp) where
  abbrev nb : X → X → Bool
  nb = no_better cmp

  total_at : (r s : Ordering) → r ≡ ordering_reverse s → not (is_gt r) ≡ false → not (is_gt s) ≡ true
  total_at r Less e h = refl
  total_at r Equal e h = refl
  total_at r Greater e h = sym h ∙ ap (λ t. not (is_gt t)) e

  total : (x y : X) → nb x y ≡ false → nb y x ≡ true
  total x y h = total_at (cmp x y) (cmp y x) (order.antisymm x y) h

  chain : (x y z : X) → nb x y ≡ true → nb y z ≡ true → nb x z ≡ true
  chain x y z h k = ap not (upto order x y z (unturned (is_gt (cmp x y)) h) (unturned (is_gt (cmp y z)) k))
    where
      unturned : (b : Bool) → not b ≡ true → b ≡ false
      unturned true h = sym h
      unturned false h = refl

  itself : (x : X) → nb x x ≡ true
  itself x = decide (nb x x) refl
    where
      decide : (b : Bool) → nb x x ≡ b → nb x x ≡ true
      decide true e = e
      decide false e = total x x e

  -- what is no better than b is worse than what beats b
  worse : (x y b : X) → nb x b ≡ false → nb y b ≡ true → nb x y ≡ false
  worse x y b h k = decide (nb x y) refl
    where
      clash : nb x b ≡ true → nb x y ≡ false
      clash t = let z : true ≡ false = sym t ∙ h in cc

      decide : (v : Bool) → nb x y ≡ v → nb x y ≡ false
      decide true e = clash (chain x y b e k)
      decide false e = e

  -- a candidate alone
  pub first_alone : (x : X) → FirstBest nb (x ∷ []) x
  first_alone x = record { before = []; behind = []; among = refl; best = (itself x, tt); first = tt }

  -- one more that is no better: the best stays
  pub first_keeps : (seen : List X) (b y : X) → FirstBest nb seen b → nb y b ≡ true → FirstBest nb (seen ++ y ∷ []) b
  first_keeps seen b y f h = record {
    before = f.before;
    behind = f.behind ++ y ∷ [];
    among = ap (λ (l : List X). l ++ y ∷ []) f.among ∙ append_assoc f.before (b ∷ f.behind) (y ∷ []);
    best = All-push _ seen y f.best h;
    first = f.first;
  }

  -- one more that beats it: it is the first that none beats
  pub first_takes : (seen : List X) (b y : X) → FirstBest nb seen b → nb y b ≡ false → FirstBest nb (seen ++ y ∷ []) y
  first_takes seen b y f h = record {
    before = seen;
    behind = [];
    among = refl;
    best = All-push _ seen y (All-weaker _ _ (λ z k. chain z b y k (total y b h)) seen f.best) (itself y);
    first = All-weaker _ _ (λ z k. worse y z b h k) seen f.best;
  }

-- a walk one step on: what is seen grows by the step's candidate
pub seen_more : {X : Type 0} (xs seen rest rest' : List X) (y : X) → xs ≡ seen ++ rest → rest ≡ y ∷ rest' → xs ≡ (seen ++ y ∷ []) ++ rest'
seen_more xs seen rest rest' y e s = e ∙ ap (λ l. seen ++ l) s ∙ sym (append_assoc seen (y ∷ []) rest')
