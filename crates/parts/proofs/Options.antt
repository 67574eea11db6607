-- Options whose values are seen by what they stand for.
use Rattle.std.proofs.Common.{◌≡◌, Bool, true, false, cond, Some, None, Err, Option, refl, ap}
use Rattle.std.specs.Option.{option_map, option_and_then, ok_or, MatchOption, IsSomeAnd}

module _ {A B X Y : Type 0} (v : A → X) (w : B → Y) where
  -- where a call at the value gives what f makes of it, `map` gives what f makes of the option
  pub mapped : (f : X → Y) (P : A → B → Type 0) → ((x : A) (y : B) → P x y → w y ≡ f (v x))
      → (m : Option A) (r : Option B) → MatchOption m (r ≡ None) (λ x. IsSomeAnd r (P x)) → option_map w r ≡ option_map f (option_map v m)
  mapped f P same None r h = ap (option_map w) h
  mapped f P same (Some x) (Some y) h = ap Some (same x y h)
  mapped f P same (Some x) None h = absurd h

  -- and so does `and_then`
  pub chained : (f : X → Option Y) (m : Option A) (r : Option B) (P : A → Type 0) → MatchOption m (r ≡ None) P → ((x : A) → P x → option_map w r ≡ f (v x)) → option_map w r ≡ option_and_then f (option_map v m)
  chained f None r P h same = ap (option_map w) h
  chained f (Some x) r P h same = same x h

-- what f makes of a value that a test lets through
pub map_if : {X Y : Type 0} (f : X → Y) (b : Bool) (x : X) → option_map f (cond b (Some x) None) ≡ cond b (Some (f x)) None
map_if f true x = refl
map_if f false x = refl

-- what is refused by `ok_or` was nothing, and the refusal is the one that was given
pub refused_or : {T E : Type 0} (o : Option T) (e x : E) → ok_or o e ≡ Err x → (o ≡ None) × (x ≡ e)
refused_or None e x h = (refl, cc)
refused_or (Some y) e x h = absurd (cc)
