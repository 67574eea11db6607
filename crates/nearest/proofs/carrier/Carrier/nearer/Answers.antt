use Rattle.std.proofs.Common.{◌≡◌, List, [], ℤ, ◌*ℤ◌, int_lt, ap, ap₂, ◌∙◌, w64}
use Rattle.integers.specs.Points.{dot}
use Rattle.integers.proofs.Solver.{var, ◌⊗◌}
use Rattle.integers.proofs.Overflow.{Bv, fits, kept_is}
use Rattle.integers.proofs.Environments.{num}
use Rattle.convex.proofs.Sizes.{near_by, size_by}
use Rattle.nearest.specs.declared.pair.Pair.{Pair}
use Rattle.nearest.specs.declared.carrier.Carrier.{Carrier}
use Rattle.nearest.specs.Vectors.{to}
use Rattle.nearest.specs.Pairs.{between}
use Rattle.nearest.proofs.Rooms.{roomy}
use Rattle.nearest.proofs.Pairs.{near-between, near-foot, size_extent, size_product, size_square}
use Rattle.nearest.proofs.carrier.Carrier.nearer.Goals as goal

pub dot-requires : goal.dot-requires
dot-requires c = roomy 619573248 28 (near-foot c.args.self) (near_by c.difference.ensures (near-between c.args.w)) tt tt tt

-- the extent and the product of the foot and the difference
abbrev env : (c : Carrier) (w : Pair) (k : ℤ) → k ≡ dot (to c.foot) (between w) → List Bv → List Bv
env c w k p ρ = num c.extent (size_extent c) (num k (size_by p (size_product c (between w) (near-between w))) ρ)

pub overflow_mul-result : goal.overflow_mul-result
overflow_mul-result c = fits w64 (env c.args.self c.args.w c.dot.result (c.dot.ensures ∙ ap (λ t. dot (to c.args.self.foot) t) c.difference.ensures) []) (var 0 ⊗ var 1) tt

pub dot-requires-2 : goal.dot-requires-2
dot-requires-2 c = roomy 619573248 619573248 (near-foot c.args.self) (near-foot c.args.self) tt tt tt

pub returns : goal.returns
returns c =
    let e : c.dot.result ≡ dot (to c.args.self.foot) (between c.args.w) = (c.dot.ensures ∙ ap (λ t. dot (to c.args.self.foot) t) c.difference.ensures) in
    let ρ = env c.args.self c.args.w c.dot.result e (num c.dot-2.result (size_by c.dot-2.ensures (size_square c.args.self)) []) in
    ap₂ int_lt (kept_is w64 ρ (var 0 ⊗ var 1) tt ∙ ap (λ t. c.args.self.extent *ℤ t) e) (kept_is w64 ρ (var 2) tt ∙ c.dot-2.ensures)
