-- `check_conflict` meets its contract. Assumes nothing.
use mathlib.Core.Path.{◌≡◌, sym, subst}
use borrow.Author.Rules.{rules}
use Rattle.std.proofs.lemmas.Result.{err_from_is_err_and}
use Rattle.table.specs.declared.Table.{Table}
use Rattle.table.proofs.Sound.{read_sound}
use Rattle.conflict.specs.Entry.{RightAnswer}
use Rattle.conflict.proofs.check_conflict.Goals as goal

pub check_table-requires : goal.check_table-requires
check_table-requires c = read_sound _ (search rules) (sym c.in_ok-table.ensures)

pub returns-in_err-table : goal.returns-in_err-table
returns-in_err-table c =
    let p = err_from_is_err_and c.from_residual.result c.from_residual.ensures.1 in
    record { value = rw (p.1, p.2, ← c.in_err-table.ensures); right = λ t e. rw p.1 tt }

pub returns : goal.returns
returns c =
    let e = c.in_ok-table.ensures in
    let r = c.check_table.ensures in
    record {
      value = rw (← e) r.value;
      right = λ t h. let same : c.in_ok-table.table ≡ t = cc in subst (λ (z : Table). RightAnswer z c.args.mask c.check_table.result) same r.right;
    }
