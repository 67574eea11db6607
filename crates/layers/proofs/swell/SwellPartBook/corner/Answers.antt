use Rattle.std.proofs.Common.{◌/◌, Ok, ap, ◌∙◌, rules}
use Rattle.std.specs.Option.{option_map}
use Rattle.integers.specs.Points.{Pt, ◌+ᵛ◌, ◌-ᵛ◌}
use Rattle.exact.specs.Spots.{spot}
use Rattle.parts.specs.Boxes.{vertex}
use Rattle.parts.proofs.Options.{mapped}
use Rattle.layers.specs.Layers.{cube}
use Rattle.layers.proofs.Swells.{swelled_corner_refused, corner_roomy, swelled_corner}
use Rattle.layers.proofs.swell.SwellPartBook.corner.Goals as goal

pub returns-in_err-check_room : goal.returns-in_err-check_room
returns-in_err-check_room g c = search (rules, swelled_corner_refused)

pub map-requires : goal.map-requires
map-requires g c =
    let roomy = corner_roomy c.args.self.now.by c.args.part (c.args.k / 8) (g.B.Meaning.meaning c.args.self.now.book c.args.part) c.in_ok-below.below c.in_ok-check_room.ensures c.in_ok-below.ensures in
    search (rules, roomy)

pub returns : goal.returns
returns g c =
    let corner : Pt → Pt = λ p. vertex (p -ᵛ cube c.args.self.now.by) (p +ᵛ cube c.args.self.now.by) c.numbered-octant.result in
    ap Ok (mapped (spot {n = 5}) (spot {n = 5}) corner _ (λ x y q. search rules) c.in_ok-below.below c.map.result c.map.ensures.cases)
    ∙ swelled_corner c.args.self.now.by c.args.part c.args.k (g.B.Meaning.meaning c.args.self.now.book c.args.part) c.numbered-octant.result (option_map spot c.in_ok-below.below)
    c.in_ok-check_room.ensures c.numbered-octant.ensures c.in_ok-below.ensures
