use Rattle.std.proofs.Common.{◌≡◌, pos, ap, ◌∙◌, rules}
use Rattle.integers.specs.Points.{dot}
use Rattle.exact.specs.Spots.{heading, spot}
use Rattle.layers.proofs.swell.is_beyond.Goals as goal

pub returns : goal.returns
returns c =
    let e : c.product.result ≡ dot (heading c.args.axis) (spot c.args.c) = c.product.ensures ∙ ap (dot (heading c.args.axis)) c.from.ensures in
    let b : c.from-2.result ≡ pos c.args.by = c.from-2.ensures in
    rw (e, b) (search rules)
