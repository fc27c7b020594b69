-- `judge` meets its contract. Assumes nothing.
use mathlib.Core.Path.{sym}
use Rattle.std.proofs.lemmas.Result.{err_from_is_err_and}
use Rattle.table.proofs.Sound.{read_sound}
use Rattle.judge.specs.Judge.{judge_of}
use Rattle.judge.proofs.judge.Goals as goal

pub judge_table-requires : goal.judge_table-requires
unfolding judge_of
judge_table-requires c = read_sound _ (λ k. (c.type_inv.file k).fits) (sym c.in_ok-read.ensures)

pub returns-in_err-read : goal.returns-in_err-read
unfolding judge_of
returns-in_err-read c =
    let p = err_from_is_err_and c.from_residual.result c.from_residual.ensures.1 in
    rw (p.1, p.2, ← c.in_err-read.ensures)

pub returns : goal.returns
unfolding judge_of
returns c = rw (← c.in_ok-read.ensures) c.judge_table.ensures
