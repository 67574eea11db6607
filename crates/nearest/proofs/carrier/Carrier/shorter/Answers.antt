use Rattle.std.proofs.Common.{rules, sym, ◌∙◌}
use Rattle.nearest.proofs.Faces.{by_gaps}
use Rattle.nearest.proofs.carrier.Carrier.shorter.Goals as goal

pub returns-then-is_narrower : goal.returns-then-is_narrower
returns-then-is_narrower c = let narrower = sym c.is_narrower.ensures ∙ c.if-is_narrower.true in search (rules, by_gaps)

pub returns-else-is_narrower : goal.returns-else-is_narrower
returns-else-is_narrower c = let wider = sym c.is_narrower.ensures ∙ c.if-is_narrower.false in search (rules, by_gaps)
