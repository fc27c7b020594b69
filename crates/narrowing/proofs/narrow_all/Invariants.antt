-- The processors are looked at one after the other.
use mathlib.Core.Path.{◌≡◌}
use mathlib.Core.Bool.{cond}
use Prim.Native.Nat.{◌-◌, ◌≤◌}
use lib.Bits.{bit_and}
use lib.ListN.{get_or}
use Rattle.mask.specs.Mask.{has}
use Rattle.table.specs.Table.{column}
use Rattle.schedule.specs.Arrays.{tasks_of}
use Rattle.nogoods.specs.Nogoods.{KnownSets}
use Rattle.partial.specs.Partial.{site_of}
use Rattle.narrowing.specs.Narrowing.{narrow_of}
use Rattle.narrowing.proofs.narrow_all.Given as goal

abbrev pub invariant-loop-p : goal.invariant-loop-p
invariant-loop-p l =
    (l.p ≤ l.instance.sizes.processors)
    × (l.may ≡ column 8 l.p (λ r. cond (has l.anew r) (narrow_of l.instance.timing l.instance.rows l.instance.messages l.instance.sizes l.full l.list l.count (site_of l.s r) r (bit_and (get_or l.sets r 0) l.s.left)) (bit_and (get_or l.sets r 0) l.s.left)))
    × KnownSets (tasks_of l.instance.sizes.tasks l.instance.timing) l.list l.count l.lateness
