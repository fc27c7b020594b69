-- The processors are tried one by one.
use Prim.Native.Nat.{◌-◌}
use Rattle.finite.proofs.Search.{Searched}
use Rattle.pairs.specs.Pairs.{takes_both}
use Rattle.pairs.proofs.nowhere.Given as goal

abbrev pub invariant-loop-p : goal.invariant-loop-p
invariant-loop-p l = Searched l.processors (takes_both l.rows l.s l.i l.j) l.p
