-- `judge_tasks` meets its contract: the file's refusal, or what is answered on its table.
use mathlib.Core.Path.{refl, sym}
use Rattle.std.proofs.lemmas.Result.{err_from_is_err_and}
use Rattle.table.proofs.Sound.{read_sound}
use Rattle.judge.specs.Judge.{judge_of}
use Rattle.task_report.specs.Report.{report_answer, report_buffer}
use Rattle.task_report.proofs.judge_tasks.Goals as goal

pub returns-in_err-table-clause-answer : goal.returns-in_err-table-clause-answer
unfolding report_answer judge_of
returns-in_err-table-clause-answer c =
    let p = err_from_is_err_and c.from_residual.result c.from_residual.ensures.1 in
    rw (p.1, p.2, ← c.in_err-table.ensures)

pub returns-in_err-table-clause-buffer : goal.returns-in_err-table-clause-buffer
unfolding report_buffer judge_of
returns-in_err-table-clause-buffer c = rw (← c.in_err-table.ensures) refl

pub judge_tasks_of-requires : goal.judge_tasks_of-requires
judge_tasks_of-requires c = read_sound _ (λ k. (c.type_inv.file k).fits) (sym c.in_ok-table.ensures)

pub returns-clause-answer : goal.returns-clause-answer
unfolding report_answer judge_of
returns-clause-answer c = rw (← c.in_ok-table.ensures) c.judge_tasks_of.ensures.answer

pub returns-clause-buffer : goal.returns-clause-buffer
unfolding report_buffer judge_of
returns-clause-buffer c = rw (← c.in_ok-table.ensures) c.judge_tasks_of.ensures.buffer
