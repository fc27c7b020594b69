-- The sets below p are counted.
use mathlib.Core.Path.{◌≡◌}
use Prim.Native.Nat.{◌≤◌}
use Rattle.subgradient.specs.Subgradient.{counts_of}
use Rattle.subgradient.proofs.counts.Given as goal

abbrev pub invariant-loop-p : goal.invariant-loop-p
invariant-loop-p l = (l.p ≤ l.m) × (l.taken ≡ counts_of l.sets l.p)
