-- `tops_of` meets its contract. Assumes nothing.
use mathlib.Core.Path.{◌≡◌}
use Prim.Native.Nat.{◌≤◌}
use lib.ListN.{length}
use Rattle.capacity_bound.proofs.Weighted.{Topping}
use Rattle.capacity_bound.proofs.tops_of.Given as goal

abbrev pub invariant-loop-p : goal.invariant-loop-p
invariant-loop-p l = (l.p ≤ l.m) × (length l.tops ≡ 8) × Topping l.weighting l.sets l.s l.p l.tops
