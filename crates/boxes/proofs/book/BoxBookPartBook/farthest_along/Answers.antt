use Rattle.std.proofs.Common.{◌≡◌, ℕ, get_or, arith, rules, ap, ◌∙◌, subst, sym}
use Rattle.std.specs.Option.{option_map, ok_or}
use Rattle.exact.specs.Spots.{spot, heading}
use Rattle.convex.specs.Hulls.{Found}
use Rattle.boxes.specs.Entries.{boxed}
use Rattle.boxes.specs.declared.entry.Entry.{Entry}
use Rattle.boxes.proofs.Reaches.{vertex_for_part, boxed-farthest}
use Rattle.boxes.proofs.book.BoxBookPartBook.farthest_along.Goals as goal

pub returns : goal.returns
returns c =
    subst (Found (spot {n = 5}) (boxed c.args.self.now.entries.now c.args.part) (heading c.args.direction)) (sym (c.ok_or.ensures.value ∙ ap (ok_or c.and_then.result) c.part_missing.ensures))
    (boxed-farthest c.args.part (heading c.args.direction) c.args.self.now.entries.now c.towards-octant.result c.first_best_of.result c.and_then.result _ c.first_best_of.ensures c.towards-octant.ensures c.and_then.ensures
    (λ s q.
    let (k, e, v) : (k : ℕ) × (e : Entry) × (option_map spot c.and_then.result ≡ vertex_for_part c.args.part (get_or c.args.self.now.entries.now k e) c.towards-octant.result) = search rules in
    (e, v ∙ ap (λ k. vertex_for_part c.args.part (get_or c.args.self.now.entries.now k e) c.towards-octant.result) {y = s.candidate} (omega arith))))
