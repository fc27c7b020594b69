-- `sets_of` meets its contract. Assumes nothing.
use Rattle.rules.proofs.SetsLoop.{Placing}
use Rattle.rules.proofs.sets_of.Given as goal

abbrev pub invariant-loop-k : goal.invariant-loop-k
invariant-loop-k l = Placing l.placement l.k l.sets
