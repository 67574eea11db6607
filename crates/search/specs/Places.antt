-- The places of a list with the scores of their elements, and the first best of them.
use Rattle.std.specs.Prelude.{◌≡◌, ℕ, ◌+◌, ◌<◌, Bool, true, false, List, [], ◌∷◌, length, Some, None, Option, slice_index_or}
use Rattle.search.specs.declared.Scored.{Scored}

-- each place from i on, with the score of its element
abbrev pub scored : {X S : Type 0} → (X → S) → ℕ → List X → List (Scored ℕ S)
scored f i [] = []
scored f i (x ∷ xs) = record { candidate = i; score = f x } ∷ scored f (i + 1) xs

-- a place of xs whose score s no element's beats, and which each earlier one falls short of
pub record FirstPlace {X S : Type 0} (no_better : S → S → Bool) (f : X → S) (xs : List X) (s : Scored ℕ S) : Type 0 where
  pub inside : s.candidate < length xs
  pub score_is : (d : X) → s.score ≡ f (slice_index_or xs s.candidate d)
  pub best : (k : ℕ) (d : X) → k < length xs → no_better (f (slice_index_or xs k d)) s.score ≡ true
  pub first : (k : ℕ) (d : X) → k < s.candidate → no_better s.score (f (slice_index_or xs k d)) ≡ false

-- the first best place of xs, or nothing exactly when xs is empty
abbrev pub Placed : {X S : Type 0} → (S → S → Bool) → (X → S) → List X → Option (Scored ℕ S) → Type 0
Placed no_better f xs None = xs ≡ []
Placed no_better f xs (Some s) = FirstPlace no_better f xs s
