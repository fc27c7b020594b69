-- `crossing` meets its contract. Assumes nothing.
use mathlib.Core.Logic.{⊎_elim}
use Prim.Native.Nat.{◌-◌}
use Rattle.finite.proofs.SumLoop.{summing_start, summing_end}
use Rattle.partial.proofs.MessageSum.{message_fits, message_next}
use Rattle.network_bound.specs.NetworkBound.{must_cross, crossing_of}
use Rattle.network_bound.proofs.crossing.Goals as goal

pub loop-j-init : goal.loop-j-init
unfolding crossing_of
loop-j-init c = summing_start

pub must_cross-requires : goal.must_cross-requires
unfolding crossing_of
must_cross-requires c = let p = c.requires in (p.0, p.1.from_task _ c.loop-j-test.true, p.1.to_task _ c.loop-j-test.true)

pub overflow_add-sum : goal.overflow_add-sum
unfolding crossing_of
overflow_add-sum c = record { fits = message_fits c.requires.1 c.loop-j.invariant c.loop-j-test.true }

pub loop-j-preserved : goal.loop-j-preserved
unfolding crossing_of
loop-j-preserved c =
    let n = message_next c.requires.1 c.loop-j.invariant c.loop-j-test.true c.must_cross.ensures in
    ⊎_elim (λ w. rw w.sum-is (n.0 w.if-must_cross.true)) (λ w. rw w.sum-is (n.1 w.if-must_cross.false)) c.if-must_cross.branch-raw

pub returns : goal.returns
unfolding crossing_of
returns c = summing_end c.loop-j.invariant c.loop-j-test.false
