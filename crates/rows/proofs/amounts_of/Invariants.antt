-- `amounts_of` meets its contract. Assumes nothing.
use Rattle.table.proofs.Filling.{Filled}
use Rattle.rules.specs.Rules.{amount_of}
use Rattle.rows.proofs.amounts_of.Given as goal

abbrev pub invariant-loop-j : goal.invariant-loop-j
invariant-loop-j l = Filled 64 l.t.messages.count (amount_of l.t) l.j l.amounts
