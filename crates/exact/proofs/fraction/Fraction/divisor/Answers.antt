use Rattle.std.proofs.Common.{ℕ, [], ◌∷◌, nat_abs, ap, ◌∙◌, subst, subst₂, w64, SFits, rules}
use Rattle.std.proofs.lemmas.Int.{to_z-of_z}
use Rattle.integers.specs.Divisors.{Greatest}
use Rattle.integers.proofs.Divisors.{greatest_more}
use Rattle.exact.proofs.Quotients.{divisor_pos, divisor_small}
use Rattle.exact.proofs.fraction.Fraction.divisor.Goals as goal

pub returns : goal.returns
returns c =
    let s = c.args.self in
    let fx : SFits w64 s.point.x = search rules in
    let fy : SFits w64 s.point.y = search rules in
    let fz : SFits w64 s.point.z = search rules in
    let fw : SFits w64 s.over = search rules in
    let x = nat_abs s.point.x in let y = nat_abs s.point.y in let z = nat_abs s.point.z in let w = nat_abs s.over in
    let a : Greatest (z ∷ w ∷ []) c.gcd-a.result =
    subst₂ (λ (m n : ℕ). Greatest (m ∷ n ∷ []) c.gcd-a.result) (c.unsigned_abs.ensures.value ∙ ap nat_abs (to_z-of_z w64 s.point.z fz)) (c.unsigned_abs-2.ensures.value ∙ ap nat_abs (to_z-of_z w64 s.over fw)) c.gcd-a.ensures in
    let b : Greatest (y ∷ c.gcd-a.result ∷ []) c.gcd-b.result =
    subst (λ (m : ℕ). Greatest (m ∷ c.gcd-a.result ∷ []) c.gcd-b.result) (c.unsigned_abs-3.ensures.value ∙ ap nat_abs (to_z-of_z w64 s.point.y fy)) c.gcd-b.ensures in
    let g : Greatest (x ∷ c.gcd-b.result ∷ []) c.gcd.result =
    subst (λ (m : ℕ). Greatest (m ∷ c.gcd-b.result ∷ []) c.gcd.result) (c.unsigned_abs-4.ensures.value ∙ ap nat_abs (to_z-of_z w64 s.point.x fx)) c.gcd.ensures in
    let all : Greatest (x ∷ y ∷ z ∷ w ∷ []) c.gcd.result = greatest_more (y ∷ z ∷ w ∷ []) x c.gcd-b.result c.gcd.result (greatest_more (z ∷ w ∷ []) y c.gcd-a.result c.gcd-b.result a b) g in
    let d = all.divides.1.1.1.0 in
    record { greatest = all; low_bound = divisor_pos c.gcd.result s.over s.positive d; high_bound = divisor_small c.gcd.result s.over s.positive fw d }
