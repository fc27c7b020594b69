-- The candidates are tried one after the other; what holds of the sets with a candidate follows from the call one deeper.
use mathlib.Core.Path.{◌≡◌}
use Prim.Native.Nat.{◌+◌, ◌*◌, ◌-◌, ◌≤◌}
use lib.ListN.{length}
use Rattle.schedule.specs.Arrays.{tasks_of}
use Rattle.nogoods.specs.Nogoods.{KnownSets}
use Rattle.knapsack.specs.Knapsack.{Packs}
use Rattle.knapsack.proofs.Packing.{Same, Packing}
use Rattle.knapsack.proofs.+most_take.Given as goal

abbrev pub invariant-most-loop-left : goal.invariant-most-loop-left
invariant-most-loop-left l =
    (24 - l.left.at ≤ 24 - l.initial.left.at) × (length l.list ≡ length l.initial.list) × Packs l.n l.timing l.initial.left l.initial.list l.count × Same l.initial.left l.left
    × Packing l.n (tasks_of l.n l.timing) l.mode l.rows.memory l.rows.exclusions l.rows.load l.weighting.weights l.initial.left l.initial.list l.count
    l.left.candidates l.left.reach l.left.best l.list l.listed
    × KnownSets (tasks_of l.n l.timing) l.list l.listed l.lateness

abbrev pub decreases-most-loop-left : goal.decreases-most-loop-left
decreases-most-loop-left l = 24 - l.left.at

abbrev pub decreases-most : goal.decreases-most
decreases-most l = 2 * (24 - l.pack.at) + 1

abbrev pub decreases-take : goal.decreases-take
decreases-take l = 2 * (24 - l.pack.at) + 2
