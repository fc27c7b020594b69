-- `load_at` meets its contract. Assumes nothing.
use borrow.Author.Tests.{lt-ltb, le-ltb}
use native.Mathlib.Omega.{arith}
use Rattle.table.proofs.Times.{work_in_period, some_period, some_deadline, deadline_most}
use Rattle.rows.proofs.load_at.Goals as goal

pub returns-then-tasks-k : goal.returns-then-tasks-k
returns-then-tasks-k c = rw (le-ltb _ _ c.if-tasks-k.true)

pub of_task-load-requires : goal.of_task-load-requires
of_task-load-requires c =
    let s = c.requires in
    let k = c.args.k in
    let l = c.if-tasks-k.false in
    -- what is asked holds of the deadline too: so a load by the deadline is refused for its answer
    omega (arith, some_period s k l, work_in_period s k l, s.tasks.ticks k l, some_deadline s k l, s.tasks.c_d k l, deadline_most s k l, s.hyperperiod_most)

pub overflow_cast-result : goal.overflow_cast-result
overflow_cast-result c = record { fits = omega (arith, c.of_task-load.ensures, c.requires.hyperperiod_most) }

pub returns : goal.returns
returns c = rw (lt-ltb _ _ c.if-tasks-k.false) c.of_task-load.ensures.0
