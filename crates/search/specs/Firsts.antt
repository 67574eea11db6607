-- The first best of a list.
use Rattle.std.specs.Prelude.{◌≡◌, Bool, true, false, not, List, [], ◌∷◌, ◌++◌, Some, None, Option}
use Rattle.std.specs.declared.cmp.Ordering.{Ordering}
use Rattle.std.specs.Ordering.{is_gt}
use Rattle.std.specs.List.{AllByRecursion}

-- x stands among xs; each of xs is no better than x; and each before x is worse
pub record FirstBest {X : Type 0} (no_better : X → X → Bool) (xs : List X) (x : X) : Type 0 where
  pub before : List X
  pub behind : List X
  pub among : xs ≡ before ++ (x ∷ behind)
  pub best : AllByRecursion (λ y. no_better y x ≡ true) xs
  pub first : AllByRecursion (λ y. no_better x y ≡ false) before

-- the first best of xs, or nothing exactly when there is none
abbrev pub Chosen : {X : Type 0} → (X → X → Bool) → List X → Option X → Type 0
Chosen no_better xs None = xs ≡ []
Chosen no_better xs (Some x) = FirstBest no_better xs x

-- one step of a walk through a list: its first and the rest, or nothing at its end
abbrev pub Step : {X : Type 0} → List X → Option X → List X → Type 0
Step xs None ys = (xs ≡ []) × (ys ≡ [])
Step xs (Some x) ys = xs ≡ x ∷ ys

-- the order of scores with one below all of them, for what has no score
abbrev pub unscored : {X : Type 0} → (X → X → Bool) → Option X → Option X → Bool
unscored no_better None y = true
unscored no_better (Some x) None = false
unscored no_better (Some x) (Some y) = no_better x y

-- x is not above y
abbrev pub no_better : {X : Type 0} → (X → X → Ordering) → X → X → Bool
no_better cmp x y = not (is_gt (cmp x y))
