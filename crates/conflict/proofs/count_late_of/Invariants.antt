-- `count_late_of` meets its contract: the count is the sum so far. Assumes nothing.
use mathlib.Core.Path.{◌≡◌}
use Prim.Native.Nat.{◌≤◌}
use lib.ListN.{get_or}
use Rattle.finite.specs.Finite.{sum_to}
use Rattle.schedule.specs.Arrays.{tasks_of}
use Rattle.conflict.specs.Count.{late_as_number}
use Rattle.conflict.proofs.count_late_of.Given as goal

abbrev pub invariant-loop-set : goal.invariant-loop-set
invariant-loop-set l = (l.count ≡ sum_to l.set-index (λ k. late_as_number (tasks_of l.n l.timing) (get_or l.sets k 0))) × (l.count ≤ l.set-index)
