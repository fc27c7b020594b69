-- `start` meets its contract. Assumes nothing.
use mathlib.Core.Path.{◌≡◌}
use Prim.Native.Nat.{◌*◌, ◌/◌, ◌≤◌}
use lib.ListN.{get_or}
use Rattle.table.specs.Table.{column}
use Rattle.partial.proofs.start.Given as goal

abbrev pub invariant-loop-p : goal.invariant-loop-p
invariant-loop-p l =
    (l.p ≤ l.t.processors.count)
    × (l.memory ≡ column 8 l.p (λ j. get_or l.t.processors.memory j 0))
    × (l.load ≡ column 8 l.p (λ j. get_or l.t.processors.limit j 0 * l.t.hyperperiod / 1000))
