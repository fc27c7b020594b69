-- `processor_of` meets its contract. Assumes nothing.
use Rattle.finite.proofs.Search.{Searched}
use Rattle.rules.specs.Sets.{standing}
use Rattle.rules.proofs.processor_of.Given as goal

abbrev pub invariant-loop-p : goal.invariant-loop-p
invariant-loop-p l = Searched l.m (standing l.sets l.k) l.p
