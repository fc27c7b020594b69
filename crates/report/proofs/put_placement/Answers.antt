-- `put_placement` meets its contract: the lines of the tasks, then those of the processors.
use native.Mathlib.Omega.{arith}
use Rattle.wire.proofs.Put.{put_then}
use Rattle.report.proofs.put_placement.Goals as goal

pub put_tasks-end-requires : goal.put_tasks-end-requires
put_tasks-end-requires c =
    (omega (arith, c.requires.0), omega (arith, c.requires.2, c.requires.1.tasks.most))

pub put_loads-requires : goal.put_loads-requires
put_loads-requires c =
    (omega (arith, c.put_tasks-end.ensures.1, c.put_tasks-end.auto.text, c.requires.0), c.requires.1, c.requires.2)

pub returns : goal.returns
returns c =
    (rw (← c.judge.ensures, ← c.unwrap_or-judged.ensures) (put_then c.put_tasks-end.ensures.0 c.put_loads.ensures.0), omega (arith, c.put_tasks-end.ensures.1, c.put_loads.ensures.1))
