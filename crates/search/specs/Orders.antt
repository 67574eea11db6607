-- The order of scores with one below all of them is total and transitive where the order of the scores is.
use Rattle.std.specs.Prelude.{◌≡◌, Bool, true, false, Some, None, Option, refl}
use Rattle.std.specs.declared.cmp.Ordering.{Ordering}
use Rattle.std.specs.Option.{option_cmp}
use Rattle.search.specs.Firsts.{unscored, no_better}

pub unscored-total : {X : Type 0} (no_better : X → X → Bool) → ((x y : X) → no_better x y ≡ false → no_better y x ≡ true) → (x y : Option X) → unscored no_better x y ≡ false → unscored no_better y x ≡ true
unscored-total no_better total None y h = absurd (cc)
unscored-total no_better total (Some x) None h = refl
unscored-total no_better total (Some x) (Some y) h = total x y h

pub unscored-chain : {X : Type 0} (no_better : X → X → Bool) → ((x y z : X) → no_better x y ≡ true → no_better y z ≡ true → no_better x z ≡ true) → (x y z : Option X) → unscored no_better x y ≡ true → unscored no_better y z ≡ true → unscored no_better x z ≡ true
unscored-chain no_better chain None y z h k = refl
unscored-chain no_better chain (Some x) None z h k = absurd (cc)
unscored-chain no_better chain (Some x) (Some y) None h k = absurd (cc)
unscored-chain no_better chain (Some x) (Some y) (Some z) h k = chain x y z h k

-- it is std's order of options, by which the search judges a candidate that may have no score
pub unscored_is : {X : Type 0} (cmp : X → X → Ordering) (x y : Option X) → no_better (option_cmp cmp) x y ≡ unscored (no_better cmp) x y
unscored_is cmp None None = refl
unscored_is cmp None (Some y) = refl
unscored_is cmp (Some x) None = refl
unscored_is cmp (Some x) (Some y) = refl
