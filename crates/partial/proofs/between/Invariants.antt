-- `between` meets its contract. Assumes nothing.
use Rattle.partial.specs.Tests.{joins}
use Rattle.partial.proofs.MessageSum.{MessageSum}
use Rattle.partial.proofs.between.Given as goal

abbrev pub invariant-loop-j : goal.invariant-loop-j
invariant-loop-j l = MessageSum l.messages l.count (joins l.k l.others) l.j l.sum
