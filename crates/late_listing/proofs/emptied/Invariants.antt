-- Processor by processor: what is left, and what the tasks on it took.
use mathlib.Core.Path.{◌≡◌}
use Prim.Native.Nat.{◌-◌, ◌≤◌}
use Rattle.table.specs.Table.{column}
use Rattle.late_listing.specs.LateListing.{whole_of}
use Rattle.late_listing.proofs.emptied.Given as goal

abbrev pub invariant-loop-p : goal.invariant-loop-p
invariant-loop-p l = (l.p ≤ l.instance.sizes.processors) × (l.memory ≡ column 8 l.p (whole_of l.instance.rows.memory l.s l.s.memory)) × (l.load ≡ column 8 l.p (whole_of l.instance.rows.load l.s l.s.load))
