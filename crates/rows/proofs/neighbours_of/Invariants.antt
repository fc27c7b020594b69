-- `neighbours_of` meets its contract. Assumes nothing.
use Rattle.table.proofs.Filling.{Filled}
use Rattle.rows.specs.Rows.{beside_of}
use Rattle.rows.proofs.neighbours_of.Given as goal

abbrev pub invariant-loop-k : goal.invariant-loop-k
invariant-loop-k l = Filled 24 l.n (beside_of l.groups l.n) l.k l.neighbours
