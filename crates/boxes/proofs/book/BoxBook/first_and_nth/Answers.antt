use Rattle.std.proofs.Common.{rules, tests, Some, ap, ◌∙◌, arith}
use Rattle.std.specs.List.{slice_get}
use Rattle.std.proofs.lemmas.Iterator.{YieldsList-from_slice}
use Rattle.std.proofs.lemmas.Iterator.Consumers.{YieldsList-from_filter, YieldsList-at}
use Rattle.boxes.specs.Entries.{counts_for_part}
use Rattle.boxes.proofs.Walks.{none_from_yields_List, first_from_yields_List, later_from_yields_List}
use Rattle.boxes.proofs.book.BoxBook.first_and_nth.Goals as goal

pub returns-in_default-clause-first : goal.returns-in_default-clause-first
returns-in_default-clause-first c =
    none_from_yields_List c.next.new.self c.in_default.ensures.steps
    (YieldsList-from_filter _ (counts_for_part c.args.part) (YieldsList-at c.filter-counting.ensures.source (YieldsList-from_slice c.args.self.now.entries.now (cc))) c.filter-counting.ensures.closure (λ x r q k. search (rules, tests)))
    0

pub returns-in_default-clause-nth : goal.returns-in_default-clause-nth
returns-in_default-clause-nth c =
    none_from_yields_List c.next.new.self c.in_default.ensures.steps
    (YieldsList-from_filter _ (counts_for_part c.args.part) (YieldsList-at c.filter-counting.ensures.source (YieldsList-from_slice c.args.self.now.entries.now (cc))) c.filter-counting.ensures.closure (λ x r q k. search (rules, tests)))
    c.args.k

pub returns-in-0-clause-first : goal.returns-in-0-clause-first
returns-in-0-clause-first c =
    first_from_yields_List (Some c.in-Some.first) c.next.new.self c.in-Some.ensures.steps
    (YieldsList-from_filter _ (counts_for_part c.args.part) (YieldsList-at c.filter-counting.ensures.source (YieldsList-from_slice c.args.self.now.entries.now (cc))) c.filter-counting.ensures.closure (λ x r q k. search (rules, tests)))

pub returns-in-0-clause-nth : goal.returns-in-0-clause-nth
returns-in-0-clause-nth c =
    first_from_yields_List (Some c.in-Some.first) c.next.new.self c.in-Some.ensures.steps
    (YieldsList-from_filter _ (counts_for_part c.args.part) (YieldsList-at c.filter-counting.ensures.source (YieldsList-from_slice c.args.self.now.entries.now (cc))) c.filter-counting.ensures.closure (λ x r q k. search (rules, tests)))
    ∙ ap (slice_get _) {y = c.args.k} (omega arith)

pub returns-in_default-k-clause-first : goal.returns-in_default-k-clause-first
returns-in_default-k-clause-first c =
    first_from_yields_List (Some c.in-Some.first) c.next.new.self c.in-Some.ensures.steps
    (YieldsList-from_filter _ (counts_for_part c.args.part) (YieldsList-at c.filter-counting.ensures.source (YieldsList-from_slice c.args.self.now.entries.now (cc))) c.filter-counting.ensures.closure (λ x r q k. search (rules, tests)))

pub returns-in_default-k-clause-nth : goal.returns-in_default-k-clause-nth
returns-in_default-k-clause-nth c =
    later_from_yields_List c.in-Some.first c.next.new.self c.in-Some.ensures.steps c.nth.result c.nth.new.self _ c.nth.ensures.ran
    (YieldsList-from_filter _ (counts_for_part c.args.part) (YieldsList-at c.filter-counting.ensures.source (YieldsList-from_slice c.args.self.now.entries.now (cc))) c.filter-counting.ensures.closure (λ x r q k. search (rules, tests)))
    ∙ ap (slice_get _) {y = c.args.k} (omega arith)
