-- Lists that are joined of blocks, as the corners of a part are of its boxes.
use Rattle.std.proofs.Common.{◌≡◌, ℕ, zero, suc, ◌+◌, ◌*◌, ◌<◌, List, [], ◌∷◌, ◌++◌, length, Some, None, Option, sym, refl, ap, ◌∙◌, subst, arith}
use Rattle.std.specs.List.{ContainsAt as Has, flat_map, AllByRecursion, slice_get}
use Rattle.std.proofs.ByRecursion.{All-append, has_append_left, has_append_right}

-- what holds of each element of each block holds of all
pub all_joined : {X Y : Type 0} (P : Y → Type 0) (f : X → List Y) (xs : List X) → AllByRecursion (λ x. AllByRecursion P (f x)) xs → AllByRecursion P (flat_map f xs)
all_joined P f [] h = tt
all_joined P f (x ∷ xs) h = All-append P (f x) (flat_map f xs) h.0 (all_joined P f xs h.1)

-- a list's first, and those after it
pub has_first : {X : Type 0} (x : X) (xs : List X) → Has (x ∷ xs) x
has_first x xs = (0, omega arith, λ d. refl)

pub has_later : {X : Type 0} (x y : X) (xs : List X) → Has xs y → Has (x ∷ xs) y
has_later x y xs (k, l, e) = (suc k, omega arith, e)

-- an element of a block stands among all
pub has_joined : {X Y : Type 0} (f : X → List Y) (xs : List X) (x : X) (y : Y) → Has xs x → Has (f x) y → Has (flat_map f xs) y
has_joined f [] x y (k, l, e) h = absurd (omega arith)
has_joined f (z ∷ xs) x y (zero, l, e) h = has_append_left (f z) (flat_map f xs) y (subst (λ v. Has (f v) y) (sym (e z)) h)
has_joined f (z ∷ xs) x y (suc k, l, e) h = has_append_right (f z) (flat_map f xs) y (has_joined f xs x y (k, omega arith, e) h)

-- the k-th of two lists, one after the other
pub nth_left : {Y : Type 0} (xs ys : List Y) (k : ℕ) → k < length xs → slice_get (xs ++ ys) k ≡ slice_get xs k
nth_left [] ys k l = absurd (omega arith)
nth_left (x ∷ xs) ys zero l = refl
nth_left (x ∷ xs) ys (suc k) l = nth_left xs ys k (omega arith)

pub nth_right : {Y : Type 0} (xs ys : List Y) (k : ℕ) → slice_get (xs ++ ys) (length xs + k) ≡ slice_get ys k
nth_right [] ys k = ap (slice_get ys) (omega arith)
nth_right (x ∷ xs) ys k = ap (slice_get (x ∷ (xs ++ ys))) (lemma (length xs) k) ∙ nth_right xs ys k
  where
    lemma : (m n : ℕ) → suc m + n ≡ suc (m + n)
    lemma m n = omega arith

-- what stands at a place stands in the list
pub nth_has : {X : Type 0} (xs : List X) (k : ℕ) (x : X) → Some x ≡ slice_get xs k → Has xs x
nth_has [] k x e = let z : ◌≡◌ {A = ℕ} 0 1 = cc in absurd (omega arith)
nth_has (y ∷ xs) zero x e = let h : y ≡ x = cc in (0, omega arith, λ d. h)
nth_has (y ∷ xs) (suc k) x e = has_later y x xs (nth_has xs k x e)

-- the k-th of blocks of eight is the one of number k mod 8 in the block of number k div 8
abbrev pub in_block : {X Y : Type 0} → (X → List Y) → Option X → ℕ → Option Y
in_block f None k = None
in_block f (Some x) k = slice_get (f x) k

pub nth_blocks : {X Y : Type 0} (f : X → List Y) → ((x : X) → length (f x) ≡ 8) → (xs : List X) (q r : ℕ) → r < 8 → slice_get (flat_map f xs) (q * 8 + r) ≡ in_block f (slice_get xs q) r
nth_blocks f eight [] q r l = refl
nth_blocks f eight (x ∷ xs) zero r l = ap (slice_get (f x ++ flat_map f xs)) (zero_way r) ∙ nth_left (f x) (flat_map f xs) r (omega (arith, eight x))
  where
    zero_way : (r : ℕ) → 0 * 8 + r ≡ r
    zero_way r = omega arith
nth_blocks f eight (x ∷ xs) (suc q) r l = ap (slice_get (f x ++ flat_map f xs)) (step (length (f x)) (eight x)) ∙ nth_right (f x) (flat_map f xs) (q * 8 + r) ∙ nth_blocks f eight xs q r l
  where
    step : (n : ℕ) → n ≡ 8 → suc q * 8 + r ≡ n + (q * 8 + r)
    step n e = omega arith
