-- `beside` meets its contract. Assumes nothing.
use Rattle.rows.proofs.Grouping.{Grouped}
use Rattle.rows.proofs.beside.Given as goal

abbrev pub invariant-loop-g : goal.invariant-loop-g
invariant-loop-g l = Grouped l.groups.mask l.count l.k l.g l.set
