use Rattle.std.proofs.Common.{◌≡◌, List, [], ◌-ℤ◌, ◌∙◌, ap₂, w64}
use Rattle.integers.specs.Points.{dot}
use Rattle.integers.proofs.Solver.{var, ◌⊖◌}
use Rattle.integers.proofs.Overflow.{Bv, fits, kept_is}
use Rattle.integers.proofs.Environments.{num}
use Rattle.convex.specs.Simplices.{normal}
use Rattle.convex.proofs.Sizes.{near_by, size_by}
use Rattle.nearest.specs.Pairs.{between}
use Rattle.nearest.proofs.Rooms.{roomy}
use Rattle.nearest.proofs.Pairs.{near-between, near-normal, size_det, size_level, size_volume}
use Rattle.nearest.proofs.solves.volume.Goals as goal

pub dot-requires : goal.dot-requires
dot-requires c = roomy 4704 28 (near_by c.normal.ensures (near-normal c.args.a c.args.b c.args.c)) (near_by c.difference.ensures (near-between c.args.d)) tt tt tt

k-is : (c : goal.After-determinant) → c.dot.result ≡ dot (normal (between c.args.a) (between c.args.b) (between c.args.c)) (between c.args.d)
k-is c = c.dot.ensures ∙ ap₂ dot c.normal.ensures c.difference.ensures

abbrev env : goal.After-determinant → List Bv
env c = num c.dot.result (size_by (k-is c) (size_level c.args.a c.args.b c.args.c c.args.d)) (num c.determinant.result (size_by c.determinant.ensures (size_det c.args.a c.args.b c.args.c)) [])

pub overflow_sub-result : goal.overflow_sub-result
overflow_sub-result c = fits w64 (env c) (var 0 ⊖ var 1) tt

pub returns : goal.returns
returns c =
    let e = kept_is w64 (env c) (var 0 ⊖ var 1) tt ∙ ap₂ ◌-ℤ◌ (k-is c) c.determinant.ensures in
    record { value = e; size = size_by e (size_volume c.args.a c.args.b c.args.c c.args.d) }
