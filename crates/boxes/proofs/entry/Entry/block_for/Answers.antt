use Rattle.std.proofs.Common.{Some, sym, ap, ◌∙◌}
use Rattle.std.proofs.lemmas.Bool.{cond-true}
use Rattle.boxes.specs.Entries.{counts_for_part}
use Rattle.boxes.specs.EntryLaws.{counted}
use Rattle.boxes.proofs.entry.Entry.block_for.Goals as goal

pub block-requires : goal.block-requires
block-requires c = let t = counted c.args.part c.args.self (cc) in (t.low, t.high)

pub returns : goal.returns
returns c = ap Some c.block.ensures ∙ sym (cond-true (counts_for_part c.args.part c.args.self) _ _ (cc))
