-- Products compared as integers: the order is total and transitive.
use Rattle.std.specs.Prelude.{◌≡◌, true, false, ℤ, int_le}
use Rattle.std.proofs.Common.{rules}

pub no_larger_total : (a b : ℤ) → int_le a b ≡ false → int_le b a ≡ true
no_larger_total a b h = search rules

pub no_larger_trans : (a b c : ℤ) → int_le a b ≡ true → int_le b c ≡ true → int_le a c ≡ true
no_larger_trans a b c h k = search rules
