-- What every part of a layer keeps of the parts below it: it has a corner, and none beyond ±5; and of a mirror, the order of its corners.
use Rattle.std.specs.Prelude.{◌≡◌, ℕ, ◌-◌, ◌<◌, true, false, cond, List, [], ◌∷◌, length, IfOk, Ok, Err, Option, nat_le}
use Rattle.std.proofs.Common.{sym, ap, ◌∙◌, arith}
use Rattle.std.specs.Option.{option_map}
use Rattle.std.specs.List.{flat_map, AllByRecursion, slice_get}
use Rattle.std.proofs.ByRecursion.{All-map, All-weaker}
use Rattle.std.proofs.lemmas.List.{length-map}
use Rattle.std.proofs.lemmas.Option.{slice_get-map}
use Rattle.std.proofs.lemmas.Int.{ints}
use Rattle.std.proofs.lemmas.Bool.{cond_both}
use Rattle.integers.specs.Points.{Pt}
use Rattle.integers.specs.Space.{Near}
use Rattle.parts.specs.Books.{Part, corner_of}
use Rattle.parts.specs.Limits.{are_near}
use Rattle.parts.specs.Moves.{flipped}
use Rattle.parts.proofs.Limits.{decides_all-near}
use Rattle.layers.specs.Layers.{mirrored, joined_at, widened, swelled}

-- ---- the mirror
pub mirrored-some : (m : Part) → IfOk m (λ ps. 0 < length ps) → IfOk (mirrored m) (λ ps. 0 < length ps)
mirrored-some (Ok ps) h = omega (arith, length-map ps flipped)
mirrored-some (Err s) h = tt

flipped-near : (p : Pt) → Near 5 p → Near 5 (flipped p)
flipped-near p (a, b, c) = (omega (arith, ints), b, c)

pub mirrored-near : (m : Part) → IfOk m (λ ps. AllByRecursion (Near 5) ps) → IfOk (mirrored m) (λ ps. AllByRecursion (Near 5) ps)
mirrored-near (Ok ps) h = All-map (Near 5) flipped ps (All-weaker (Near 5) (λ p. Near 5 (flipped p)) flipped-near ps h)
mirrored-near (Err s) h = tt

-- the corners in the same order
pub mirrored_corner : (m : Part) (k : ℕ) (c : Option Pt) → Ok c ≡ corner_of m k → Ok (option_map flipped c) ≡ corner_of (mirrored m) k
mirrored_corner (Ok ps) k c e = let h : c ≡ slice_get ps k = cc in ap (λ o. Ok (option_map flipped o)) h ∙ ap Ok (sym (slice_get-map flipped ps k))
mirrored_corner (Err s) k c e = absurd (cc)

-- ---- the join
-- what holds of the corners of every part of both books holds of the corners of every part of the join
pub joined_keeps : (P : List Pt → Type 0) (s : ℕ) (f g : ℕ → Part) → ((k : ℕ) → IfOk (f k) P) → ((k : ℕ) → IfOk (g k) P) → (n : ℕ) → IfOk (joined_at s f g n) P
joined_keeps P s f g a b n = elim (nat_le n s) as (λ t. IfOk (cond t (f n) (g (n - s))) P) [ true ↦ a n | false ↦ b (n - s) ]

-- ---- the swell
pub swelled-some : (m n : ℕ) (M : Part) → IfOk M (λ ps. 0 < length ps) → IfOk (swelled m n M) (λ ps. 0 < length ps)
swelled-some m n (Ok []) h = absurd (omega arith)
swelled-some m n (Ok (p ∷ ps)) h = cond_both (are_near 5 (flat_map (widened m) (p ∷ ps))) _ _ (λ v. IfOk v (λ ps. 0 < length ps)) (λ e. omega arith) (λ e. tt)
swelled-some m n (Err s) h = tt

pub swelled-near : (m n : ℕ) (M : Part) → IfOk (swelled m n M) (λ ps. AllByRecursion (Near 5) ps)
swelled-near m n (Ok ps) = cond_both (are_near 5 (flat_map (widened m) ps)) _ _ (λ v. IfOk v (λ ps. AllByRecursion (Near 5) ps)) (λ e. (decides_all-near 5 (flat_map (widened m) ps)).0 e) (λ e. tt)
swelled-near m n (Err s) = tt
