-- The tasks are tried one by one, and those that stand apart are counted.
use Prim.Native.Nat.{◌-◌}
use Rattle.finite.proofs.SumLoop.{Summing}
use Rattle.pairs.specs.Pairs.{apart}
use Rattle.pairs.proofs.strangers.Given as goal

abbrev pub invariant-loop-j : goal.invariant-loop-j
invariant-loop-j l = Summing l.n (apart l.instance.timing l.instance.rows l.instance.sizes l.s l.i) (λ k. 1) 1 l.j l.count
