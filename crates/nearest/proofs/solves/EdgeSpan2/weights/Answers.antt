use Rattle.std.proofs.Common.{◌≡◌, List, [], ◌∷◌, pos, ◌-ℤ◌, sym, ap, ◌∙◌, ap₂, w64}
use Rattle.integers.specs.Points.{◌-ᵛ◌, dot}
use Rattle.integers.proofs.Solver.{var, con, ◌⊖◌}
use Rattle.integers.proofs.Overflow.{Bv, fits, kept_is}
use Rattle.integers.proofs.Environments.{num}
use Rattle.convex.proofs.Sizes.{near_by, size_by}
use Rattle.nearest.specs.Pairs.{between}
use Rattle.nearest.proofs.Rooms.{roomy}
use Rattle.nearest.proofs.Pairs.{wide_of, near-between, near_edge, size_edge_first, size_edge_second}
use Rattle.nearest.proofs.Signs.{neg_is}
use Rattle.nearest.proofs.solves.EdgeSpan2.weights.Goals as goal

pub sub-e-requires : goal.sub-e-requires
sub-e-requires c = (wide_of c.args.self.b c.difference-q.ensures, wide_of c.args.self.a c.difference-p.ensures)

pub dot-requires : goal.dot-requires
dot-requires c = roomy 28 56 (near_by c.difference-q.ensures (near-between c.args.self.b)) (near_by (c.sub-e.ensures ∙ ap₂ ◌-ᵛ◌ c.difference-q.ensures c.difference-p.ensures) (near_edge c.args.self.a c.args.self.b)) tt tt tt

pub dot-requires-2 : goal.dot-requires-2
dot-requires-2 c = roomy 28 56 (near_by c.difference-p.ensures (near-between c.args.self.a)) (near_by (c.sub-e.ensures ∙ ap₂ ◌-ᵛ◌ c.difference-q.ensures c.difference-p.ensures) (near_edge c.args.self.a c.args.self.b)) tt tt tt

-- what the two products come to
k-is : (c : goal.After-dot-2) → c.dot.result ≡ dot (between c.args.self.b) (between c.args.self.b -ᵛ between c.args.self.a)
k-is c = c.dot.ensures ∙ ap₂ dot c.difference-q.ensures (c.sub-e.ensures ∙ ap₂ ◌-ᵛ◌ c.difference-q.ensures c.difference-p.ensures)

l-is : (c : goal.After-dot-2) → c.dot-2.result ≡ dot (between c.args.self.a) (between c.args.self.b -ᵛ between c.args.self.a)
l-is c = c.dot-2.ensures ∙ ap₂ dot c.difference-p.ensures (c.sub-e.ensures ∙ ap₂ ◌-ᵛ◌ c.difference-q.ensures c.difference-p.ensures)

abbrev env : goal.After-dot-2 → List Bv
env c = num c.dot.result (size_by (k-is c) (size_edge_second c.args.self.a c.args.self.b)) (num c.dot-2.result (size_by (l-is c) (size_edge_first c.args.self.a c.args.self.b)) [])

pub overflow_sub-result : goal.overflow_sub-result
overflow_sub-result c = fits w64 (env c) (con (pos 0) ⊖ var 1) tt

pub returns : goal.returns
returns c = λ i. (sym (k-is c) ∙ sym (kept_is w64 (env c) (var 0) tt)) i ∷ ((neg_is (dot (between c.args.self.a) (between c.args.self.b -ᵛ between c.args.self.a)) ∙ ap (λ t. pos 0 -ℤ t) (sym (l-is c)) ∙ sym (kept_is w64 (env c) (con (pos 0) ⊖ var 1) tt)) i ∷ [])
