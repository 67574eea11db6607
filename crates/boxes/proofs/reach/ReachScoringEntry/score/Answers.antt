use Rattle.std.proofs.Common.{cond, Some, None, sym, ap, ◌∙◌, rules}
use Rattle.std.specs.Option.{option_map}
use Rattle.std.proofs.lemmas.Iterator.Adapters.{option_map_id}
use Rattle.integers.specs.Points.{Pt, dot}
use Rattle.exact.specs.declared.scores.Product.{Product}
use Rattle.exact.specs.Spots.{spot, heading}
use Rattle.exact.specs.Space.{at}
use Rattle.parts.specs.Boxes.{vertex}
use Rattle.parts.proofs.Options.{mapped, map_if}
use Rattle.boxes.specs.Entries.{counts_for_part}
use Rattle.boxes.proofs.reach.ReachScoringEntry.score.Goals as goal

pub returns : goal.returns
returns c =
    let along : Pt → Product = λ p. record { 0 = dot (heading c.args.self.now.direction) p } in
    sym (option_map_id c.map.result)
    ∙ mapped (spot {n = 5}) (λ p. p) along _ (λ x y q. search rules) c.vertex_for-farthest.result c.map.result c.map.ensures.cases
    ∙ ap (option_map along) c.vertex_for-farthest.ensures ∙ map_if along (counts_for_part c.args.self.now.part c.args.element.now) _
    ∙ ap (λ o. cond (counts_for_part c.args.self.now.part c.args.element.now) (Some (along (vertex (at c.args.element.now.low) (at c.args.element.now.high) o))) None) c.towards.ensures
