-- What the calls of a walk give: its first item, and an item after that.
use Rattle.std.proofs.Common.{◌≡◌, ℕ, suc, ◌≤◌, List, [], ◌∷◌, length, Some, None, Option, refl, arith}
use Rattle.std.specs.Iterator.{SkipsThenYields}
use Rattle.std.specs.List.{slice_get}
use Rattle.std.specs.Option.{option_map, MatchOption}
use Rattle.std.proofs.lemmas.Iterator.{YieldsList}
use Rattle.std.proofs.lemmas.Iterator.Consumers.{nth_from_yields_List}

module _ {S A B : Type 0} {steps : S → Option A → S → Type 0} {v : A → B} {s : S} {all : List B} where
  -- the first call
  pub first_from_yields_List : (r : Option A) (t : S) → steps s r t → YieldsList steps v s all → option_map v r ≡ slice_get all 0
  first_from_yields_List r t p e = nth_from_yields_List r t 0 ([], (s, refl, p), none r) e
    where
      none : (r : Option A) → MatchOption r (0 ≤ 0) (λ _. ◌≡◌ {A = ℕ} 0 0)
      none None = omega arith
      none (Some x) = refl

  -- where it gives nothing, there is nothing at any place
  pub none_from_yields_List : (t : S) → steps s None t → YieldsList steps v s all → (n : ℕ) → None ≡ slice_get all n
  none_from_yields_List t p e n = nth_from_yields_List None t n ([], (s, refl, p), omega arith) e

  -- the call that passes over n items after the first
  pub later_from_yields_List : (x : A) (t : S) → steps s (Some x) t → (r : Option A) (u : S) (n : ℕ) → SkipsThenYields steps t n r u → YieldsList steps v s all → option_map v r ≡ slice_get all (suc n)
  later_from_yields_List x t p r u n (xs, (w, y, q), c) e = nth_from_yields_List r u (suc n) (x ∷ xs, (w, (t, p, y), q), one_more r (length xs) n c) e
    where
      one_more : (r : Option A) (a b : ℕ) → MatchOption r (a ≤ b) (λ _. a ≡ b) → MatchOption r (suc a ≤ suc b) (λ _. suc a ≡ suc b)
      one_more None a b c = let k : a ≤ b = c in omega arith
      one_more (Some x) a b c = let k : a ≡ b = c in omega arith
