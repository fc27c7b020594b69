-- `traffic_of` meets its contract. Assumes nothing.
use Rattle.rules.specs.Rules.{crosses, amount_of}
use Rattle.rules.specs.Sets.{standing}
use Rattle.finite.proofs.SumLoop.{Summing}
use Rattle.checking.proofs.traffic_of.Given as goal

abbrev pub invariant-loop-j : goal.invariant-loop-j
invariant-loop-j l = Summing l.t.messages.count (crosses l.t (standing l.sets)) (amount_of l.t) 1000000000000000 l.j l.sum
