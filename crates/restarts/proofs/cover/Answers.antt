-- Where the recursion over the late sets is complete each placement of the region holds a listed conflict; else the replay goes on from its list.
use Rattle.restarts.proofs.Answering.{opens, covering_late_sets, begins_after, covering_then}
use Rattle.restarts.proofs.cover.Goals as goal

pub list_late_sets-covering-requires : goal.list_late_sets-covering-requires
list_late_sets-covering-requires c =
    let z = c.requires in
    (c.args.instance.now.messages, (z.0, z.1, opens z.2.0, z.3.knows))

pub returns-then-covering : goal.returns-then-covering
returns-then-covering c =
    λ t l w k. let v = c.list_late_sets-covering.ensures.1 c.args.instance.now.messages t l (opens w.0) k.knows in
    (covering_late_sets c.list_late_sets-covering.result w.1 v.0 c.if-covering.true, record { knows = v.1; keeps = k.keeps })

pub replay-requires : goal.replay-requires
replay-requires c =
    let z = c.requires in
    let v = c.list_late_sets-covering.ensures.1 c.args.instance.now.messages z.0 z.1 (opens z.2.0) z.3.knows in
    (z.0, z.1, begins_after z.2.0 v.0, record { knows = v.1; keeps = z.3.keeps })

pub returns : goal.returns
returns c =
    λ t l w k. let v = c.list_late_sets-covering.ensures.1 c.args.instance.now.messages t l (opens w.0) k.knows in
    let u = c.replay.ensures t l (begins_after w.0 v.0) (record { knows = v.1; keeps = k.keeps }) in
    (covering_then v.0 u.0, u.1)
