-- `placement_judge_tasks` meets its contract. Assumes nothing.
use mathlib.Core.Path.{sym, ap, ◌∙◌}
use borrow.Author.Rules.{rules}
use Rattle.task_report.proofs.Bounds.{answer_place}
use Rattle.placement.specs.Answers.{written_as}
use Rattle.placement.proofs.placement_judge_tasks.Goals as goal

pub refused_as-requires : goal.refused_as-requires
refused_as-requires c = let a = c.args in answer_place a.file.now (search rules) a.placement.now _ _ (sym c.judge_tasks.ensures.answer ∙ c.in-Err.is)

pub returns-in-Ok : goal.returns-in-Ok
returns-in-Ok c = let e = c.judge_tasks.ensures in record { number = ap written_as (sym c.in-Ok.is ∙ e.answer); buffer = e.buffer }

pub returns-in-Err : goal.returns-in-Err
returns-in-Err c =
    let e = c.judge_tasks.ensures in
    record { number = c.refused_as.ensures ∙ ap written_as (sym c.in-Err.is ∙ e.answer); buffer = e.buffer }
