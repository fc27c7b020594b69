-- `of_task` meets its contract: an idle processor has no work.
use native.Mathlib.Omega.{arith}
use Rattle.load.proofs.Work.{work_le}
use Rattle.load.proofs.Load.of_task.Goals as goal

pub returns : goal.returns
returns c =
    let a = c.args in
    let e = c.with_task.ensures in
    (omega arith, omega (arith, e, work_le a.c a.t a.h (omega arith)))
