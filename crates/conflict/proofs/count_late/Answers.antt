-- `count_late` meets its contract. Assumes nothing.
use mathlib.Core.Path.{sym}
use borrow.Author.Rules.{rules}
use Rattle.table.proofs.Sound.{read_sound}
use Rattle.conflict.proofs.count_late.Goals as goal

pub count_late_of-requires : goal.count_late_of-requires
count_late_of-requires c = read_sound _ (search rules) (sym c.in-Ok.ensures)

pub returns-in-Ok : goal.returns-in-Ok
returns-in-Ok c = rw (← c.in-Ok.ensures) c.count_late_of.ensures

pub returns-in-Err : goal.returns-in-Err
returns-in-Err c = rw (← c.in-Err.ensures)
