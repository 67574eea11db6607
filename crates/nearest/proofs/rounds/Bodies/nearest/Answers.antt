use Rattle.nearest.specs.Vectors.{to}
use Rattle.nearest.specs.Searches.{Probed, Ended}
use Rattle.nearest.proofs.Both.{on, both, regardless}
use Rattle.nearest.proofs.Turns.{Held, back, probed-corners, held_first, foot_near, stop, falls, again, meet, at_origin}
use Rattle.nearest.proofs.rounds.Bodies.nearest.Goals as goal

pub loop-near-init : goal.loop-near-init
loop-near-init g c = on (Probed back) Held (g.F.Body.corners c.args.self.now.first.now) (g.G.Body.corners c.args.self.now.second.now) c.in_ok-from.from c.nearest-near.result c.in_ok-from.ensures (λ ps qs p. held_first ps qs c.in_ok-from.from c.nearest-near.result p c.nearest-near.ensures)

pub probe-requires-in-loop-near : goal.probe-requires-in-loop-near
probe-requires-in-loop-near g c = foot_near c.loop-near.near

pub returns-in_default : goal.returns-in_default
returns-in_default g c =
    let near = c.loop-near.near in let w = c.in_ok-w.w in
    both Held (Probed (to near.foot)) Ended (g.F.Body.corners c.args.self.now.first.now) (g.G.Body.corners c.args.self.now.second.now) near w near c.loop-near.invariant c.in_ok-w.ensures (λ ps qs h p. stop h w p c.in_default.ensures)

pub loop-near-smaller : goal.loop-near-smaller
loop-near-smaller g c = let (l, t) = c.in-Some.ensures in regardless Held _ (g.F.Body.corners c.args.self.now.first.now) (g.G.Body.corners c.args.self.now.second.now) c.loop-near.near c.loop-near.invariant (λ ps qs h. falls h c.in_ok-w.w l c.in-Some.next t)

pub loop-near-preserved : goal.loop-near-preserved
loop-near-preserved g c =
    let near = c.loop-near.near in let w = c.in_ok-w.w in
    both Held (Probed (to near.foot)) Held (g.F.Body.corners c.args.self.now.first.now) (g.G.Body.corners c.args.self.now.second.now) near w c.in-Some.next c.loop-near.invariant c.in_ok-w.ensures (λ ps qs h p. again h w c.in-Some.next (probed-corners p) c.in-Some.ensures.1)

pub returns : goal.returns
returns g c = on Held Ended (g.F.Body.corners c.args.self.now.first.now) (g.G.Body.corners c.args.self.now.second.now) c.loop-near.near c.loop-near.near c.loop-near.invariant (λ ps qs h. meet h (at_origin c.loop-near.near.foot c.loop-near-test.ensures))
