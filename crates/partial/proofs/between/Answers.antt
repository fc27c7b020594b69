-- `between` meets its contract. Assumes nothing.
use mathlib.Core.Logic.{⊎_elim}
use native.Mathlib.Omega.{arith}
use Rattle.finite.proofs.SumLoop.{summing_start, summing_end}
use Rattle.partial.specs.Tests.{between}
use Rattle.partial.proofs.MessageSum.{message_fits, message_next}
use Rattle.partial.proofs.between.Goals as goal

pub loop-j-init : goal.loop-j-init
unfolding between
loop-j-init c = summing_start

pub joins-requires : goal.joins-requires
unfolding between
joins-requires c = let p = c.requires in (omega (arith, p.from_task _ c.loop-j-test.true), omega (arith, p.to_task _ c.loop-j-test.true))

pub overflow_add-sum : goal.overflow_add-sum
unfolding between
overflow_add-sum c = record { fits = message_fits c.requires c.loop-j.invariant c.loop-j-test.true }

pub loop-j-preserved : goal.loop-j-preserved
unfolding between
loop-j-preserved c =
    let n = message_next c.requires c.loop-j.invariant c.loop-j-test.true c.joins.ensures in
    ⊎_elim (λ w. rw w.sum-is (n.0 w.if-joins.true)) (λ w. rw w.sum-is (n.1 w.if-joins.false)) c.if-joins.branch-raw

pub returns : goal.returns
unfolding between
returns c = summing_end c.loop-j.invariant c.loop-j-test.false
