-- What the tests of how far points reach say.
use Rattle.std.proofs.Common.{ℕ, ◌≤◌, ◌&&◌, leb, List, nat_abs, Decides, refl}
use Rattle.std.specs.List.{AllByRecursion}
use Rattle.std.proofs.lemmas.Bool.{leb-true, le-leb}
use Rattle.std.proofs.lemmas.Bool.Decides.{Decides-and, Decides-like}
use Rattle.std.proofs.ByRecursion.{Decides-by_and}
use Rattle.integers.specs.Points.{Pt}
use Rattle.integers.specs.Space.{Near}
use Rattle.parts.specs.Limits.{is_near, are_near}

pub decides_leb : (a b : ℕ) → Decides (leb a b) (a ≤ b)
decides_leb a b = (leb-true a b, le-leb a b)

pub decides_near : (n : ℕ) (p : Pt) → Decides (is_near n p) (Near n p)
decides_near n p =
    Decides-like (is_near n p) (λ h. (h.0, h.1.0, h.1.1)) (λ h. (h.0, (h.1, h.2)))
    (Decides-and (leb (nat_abs p.x) n) (leb (nat_abs p.y) n && leb (nat_abs p.z) n) (decides_leb _ n)
    (Decides-and (leb (nat_abs p.y) n) (leb (nat_abs p.z) n) (decides_leb _ n) (decides_leb _ n)))

pub decides_all-near : (n : ℕ) (ps : List Pt) → Decides (are_near n ps) (AllByRecursion (Near n) ps)
decides_all-near n ps = Decides-by_and (is_near n) (Near n) (are_near n) (decides_near n) refl (λ p qs. refl) ps
