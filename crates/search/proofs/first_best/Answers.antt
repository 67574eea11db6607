use Rattle.std.proofs.Common.{◌≡◌, true, false, [], ◌∷◌, ◌++◌, refl, rules}
use Rattle.search.specs.Firsts.{no_better}
use Rattle.search.proofs.Firsts.{first_alone, first_keeps, first_takes, seen_more}
use Rattle.search.proofs.first_best.Goals as goal

pub loop-next-init : goal.loop-next-init
loop-next-init g c = (c.in_ok-best.best ∷ [], refl, first_alone g.C.Item.Ord.cmp g.met.C.Item.Ord.total c.in_ok-best.best)

pub loop-next-preserved-then-better : goal.loop-next-preserved-then-better
loop-next-preserved-then-better g c =
    let same = g.met.C.Item.Ord.matches_partial_cmp c.in-Some.next c.loop-next.best in
    let beaten : no_better g.C.Item.Ord.cmp c.in-Some.next c.loop-next.best ≡ false = search rules in (
      c.loop-next.invariant.0 ++ c.in-Some.next ∷ [],
      seen_more (c.in_ok-best.best ∷ g.C.Candidates.rest c.next.new.self) c.loop-next.invariant.0 (g.C.Candidates.rest c.loop-next.candidates) (g.C.Candidates.rest c.next-in-loop-next.new.self) c.in-Some.next c.loop-next.invariant.1 c.in-Some.ensures,
      first_takes g.C.Item.Ord.cmp g.met.C.Item.Ord.total c.loop-next.invariant.0 c.loop-next.best c.in-Some.next c.loop-next.invariant.2 beaten,
    )

pub loop-next-preserved : goal.loop-next-preserved
loop-next-preserved g c =
    let same = g.met.C.Item.Ord.matches_partial_cmp c.in-Some.next c.loop-next.best in
    let kept : no_better g.C.Item.Ord.cmp c.in-Some.next c.loop-next.best ≡ true = search rules in (
      c.loop-next.invariant.0 ++ c.in-Some.next ∷ [],
      seen_more (c.in_ok-best.best ∷ g.C.Candidates.rest c.next.new.self) c.loop-next.invariant.0 (g.C.Candidates.rest c.loop-next.candidates) (g.C.Candidates.rest c.next-in-loop-next.new.self) c.in-Some.next c.loop-next.invariant.1 c.in-Some.ensures,
      first_keeps g.C.Item.Ord.cmp g.met.C.Item.Ord.total c.loop-next.invariant.0 c.loop-next.best c.in-Some.next c.loop-next.invariant.2 kept,
    )
