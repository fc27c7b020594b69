-- `fill` meets its contract. Assumes nothing.
use lib.ListN.{length}
use Rattle.layout.specs.Format.{count}
use Rattle.table.specs.Columns.{field_at}
use Rattle.table.proofs.Filling.{Filled}
use Rattle.table.proofs.fill.Given as goal

abbrev pub invariant-loop-j : goal.invariant-loop-j
invariant-loop-j l = Filled (length l.initial.out) (count l.x l.kind) (field_at l.file l.x l.kind l.offset l.width) l.j l.out
