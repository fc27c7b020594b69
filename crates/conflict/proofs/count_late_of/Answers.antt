-- `count_late_of` meets its contract: the count is the sum so far. Assumes nothing.
use mathlib.Core.Path.{◌≡◌, refl}
use native.Mathlib.Omega.{arith}
use borrow.Author.Rules.{rules}
use lib.ListN.{length}
use Rattle.finite.specs.Finite.{sum_to}
use Rattle.timing.proofs.Limits.{none_below, limits_of}
use Rattle.conflict.proofs.Counting.{count_more}
use Rattle.conflict.proofs.count_late_of.Goals as goal

pub timing_of-timing-requires : goal.timing_of-timing-requires
unfolding sum_to
timing_of-timing-requires c = search rules

pub loop-set-init : goal.loop-set-init
unfolding sum_to
loop-set-init c = (refl, omega arith)

pub late_as_number-count-requires : goal.late_as_number-count-requires
unfolding sum_to
late_as_number-count-requires c =
    rw c.timing_of-timing.ensures (limits_of c.requires 0 (none_below c.args.table.tasks.count))

pub loop-set-preserved : goal.loop-set-preserved
unfolding sum_to
loop-set-preserved c =
    (count_more _ c.loop-set.set-index c.loop-set.invariant.0 c.late_as_number-count.ensures.0, omega (arith, c.loop-set.invariant.1, c.late_as_number-count.ensures.1))

pub returns : goal.returns
unfolding sum_to
returns c =
    let e : c.loop-set.set-index ≡ length c.args.sets.now = omega (arith, c.loop-set-test.false) in
    rw (← e) (rw c.timing_of-timing.ensures at c.loop-set.invariant.0)
