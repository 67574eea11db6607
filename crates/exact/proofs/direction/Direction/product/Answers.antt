use Rattle.std.proofs.Common.{◌≡◌, List, [], sym, ap, ◌∙◌, subst, w64}
use Rattle.integers.specs.Points.{dot}
use Rattle.integers.specs.Space.{Near}
use Rattle.integers.proofs.Solver.{◌⊕◌, ◌⊗◌}
use Rattle.integers.proofs.Vectors.{pt, dot_e}
use Rattle.integers.proofs.Overflow.{Bv, fits, kept_is}
use Rattle.integers.proofs.Environments.{point}
use Rattle.exact.specs.Space.{at}
use Rattle.exact.specs.Spots.{Corner, spot, heading}
use Rattle.exact.specs.declared.point.Point.{Point}
use Rattle.exact.specs.declared.direction.Direction.{Direction}
use Rattle.exact.proofs.direction.Direction.product.Goals as goal

-- the numbers of the direction and of the corner, with their bounds
abbrev env : (d : Direction) (c : Corner) (p : Point) → at p ≡ spot c → List Bv
env d c p e = point (heading d) d.near (point (at p) (subst (Near 14) (sym e) c.near) [])

pub overflow_mul-result : goal.overflow_mul-result
overflow_mul-result c = fits w64 (env c.args.self c.args.corner c.from-p.result c.from-p.ensures) ((pt 0).x ⊗ (pt 1).x) tt

pub overflow_mul-result-2 : goal.overflow_mul-result-2
overflow_mul-result-2 c = fits w64 (env c.args.self c.args.corner c.from-p.result c.from-p.ensures) ((pt 0).y ⊗ (pt 1).y) tt

pub overflow_add-result : goal.overflow_add-result
overflow_add-result c = fits w64 (env c.args.self c.args.corner c.from-p.result c.from-p.ensures) ((pt 0).x ⊗ (pt 1).x ⊕ (pt 0).y ⊗ (pt 1).y) tt

pub overflow_mul-result-3 : goal.overflow_mul-result-3
overflow_mul-result-3 c = fits w64 (env c.args.self c.args.corner c.from-p.result c.from-p.ensures) ((pt 0).z ⊗ (pt 1).z) tt

pub overflow_add-result-2 : goal.overflow_add-result-2
overflow_add-result-2 c = fits w64 (env c.args.self c.args.corner c.from-p.result c.from-p.ensures) (dot_e (pt 0) (pt 1)) tt

pub returns : goal.returns
returns c = kept_is w64 (env c.args.self c.args.corner c.from-p.result c.from-p.ensures) (dot_e (pt 0) (pt 1)) tt ∙ ap (dot (heading c.args.self)) c.from-p.ensures
