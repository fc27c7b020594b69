-- `crossing` meets its contract. Assumes nothing.
use Prim.Native.Nat.{◌-◌}
use Rattle.partial.proofs.MessageSum.{MessageSum}
use Rattle.network_bound.specs.NetworkBound.{must_cross}
use Rattle.network_bound.proofs.crossing.Given as goal

abbrev pub invariant-loop-j : goal.invariant-loop-j
invariant-loop-j l = MessageSum l.messages l.count (must_cross l.exclusions l.s l.sets l.m) l.j l.sum
