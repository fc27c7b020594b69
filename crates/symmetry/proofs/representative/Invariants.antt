-- No processor passed over is interchangeable with p. Assumes nothing.
use Prim.Native.Nat.{ℕ, ◌-◌, ◌≤◌, ◌<◌}
use Rattle.table.specs.declared.Table.{Table}
use Rattle.symmetry.specs.Symmetry.{Interchangeable}
use Rattle.symmetry.specs.Asks.{Asks}
use Rattle.symmetry.proofs.representative.Given as goal

abbrev pub invariant-loop-q : goal.invariant-loop-q
invariant-loop-q l = (l.q ≤ l.p) × ((t : Table) → Asks t l.rows l.s l.p → (j : ℕ) → j < l.q → Interchangeable t l.s j l.p → ⊥)
