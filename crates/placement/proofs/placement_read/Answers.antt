-- `placement_read` meets its contract. Assumes nothing.
use mathlib.Core.Path.{sym}
use Rattle.table.proofs.Ended.{refused_place}
use Rattle.placement.proofs.placement_read.Goals as goal

pub refused_as-requires : goal.refused_as-requires
refused_as-requires c = refused_place _ (sym c.in-Err.ensures)

pub returns-in-Ok : goal.returns-in-Ok
returns-in-Ok c = rw (← c.in-Ok.ensures)

pub returns-in-Err : goal.returns-in-Err
returns-in-Err c = rw (← c.in-Err.ensures) c.refused_as.ensures
