-- `like` meets its contract. Assumes nothing.
use Prim.Native.Nat.{◌≤◌}
use Rattle.capacity_bound.proofs.like.Given as goal

abbrev pub invariant-loop-r : goal.invariant-loop-r
invariant-loop-r l = l.r ≤ l.p
