use Rattle.std.proofs.Common.{ℕ, ◌%◌, subst}
use Rattle.integers.proofs.Divisors.{Alike, alike_back, alike_on, alike_trans, greatest_at_end}
use Rattle.exact.proofs.lowest.gcd.Goals as goal

pub loop-y-preserved : goal.loop-y-preserved
loop-y-preserved c =
    let x = c.loop-y.x in
    let y = c.loop-y.y in (
      alike_trans y (x % y) x y c.args.a c.args.b (alike_back x y) c.loop-y.invariant.0,
      alike_trans c.args.a c.args.b x y y (x % y) c.loop-y.invariant.1 (alike_on x y),
    )

pub returns : goal.returns
returns c =
    greatest_at_end c.loop-y.x c.args.a c.args.b
    (subst (λ (n : ℕ). Alike c.loop-y.x n c.args.a c.args.b) c.loop-y-test.false c.loop-y.invariant.0)
    (subst (λ (n : ℕ). Alike c.args.a c.args.b c.loop-y.x n) c.loop-y-test.false c.loop-y.invariant.1)
