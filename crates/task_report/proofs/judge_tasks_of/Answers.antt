-- `judge_tasks_of` meets its contract.
use mathlib.Core.Path.{sym}
use Rattle.task_report.proofs.Bounds.{judged_small}
use Rattle.task_report.proofs.judge_tasks_of.Goals as goal

pub put_numbers-requires : goal.put_numbers-requires
put_numbers-requires c = (judged_small c.requires c.args.placement.now (sym c.in_ok-judged.ensures), c.requires.tasks.most, c.if-out-count.false)
