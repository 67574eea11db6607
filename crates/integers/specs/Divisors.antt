-- Divisors, the greatest common one, and lowest terms.
use Rattle.std.specs.Prelude.{◌≡◌, ℕ, ◌*◌, ◌<◌, List, map, ℤ, pos, ◌*ℤ◌, unsigned_abs}
use Rattle.std.specs.List.{AllByRecursion}

-- d divides n
abbrev pub Divides : ℕ → ℕ → Type 0
Divides d n = (k : ℕ) × (n ≡ k * d)

-- d divides each of ns, and whatever divides each of them divides d
pub record Greatest (ns : List ℕ) (d : ℕ) : Type 0 where
  pub divides : AllByRecursion (Divides d) ns
  pub most : (e : ℕ) → AllByRecursion (Divides e) ns → Divides e d

-- no number above 1 divides each of ns, and 0 does not either
abbrev pub Coprime : List ℕ → Type 0
Coprime ns = (k : ℕ) → AllByRecursion (Divides k) ns → k ≡ 1

-- ms are ns in lowest terms: ns with a common factor taken out, and no other left
pub record Reduced (ns ms : List ℤ) : Type 0 where
  pub factor : ℕ
  pub positive : 0 < factor
  pub scaled : ns ≡ map (λ m. pos factor *ℤ m) ms
  pub coprime : Coprime (map unsigned_abs ms)
