-- One word after the other becomes 0.
use mathlib.Core.Path.{◌≡◌}
use Prim.Native.Nat.{◌-◌, ◌≤◌}
use Rattle.nogoods.specs.Nogoods.{cleared}
use Rattle.nogoods.proofs.open_table.Given as goal

abbrev pub invariant-loop-n : goal.invariant-loop-n
invariant-loop-n l = (l.n ≤ 16384) × (l.lateness ≡ cleared l.initial.lateness l.n)
