-- How many tasks are open. Assumes nothing.
use mathlib.Core.Path.{◌≡◌}
use mathlib.Core.List.{List}
use Prim.Native.Nat.{ℕ, ◌^◌, ◌≤◌}
use native.Mathlib.Decide.{ℕ_discrete}
use native.Mathlib.Omega.{arith}
use lib.Count.{ones}
use lib.Dec.{T, ltb→lt}
use Rattle.finite.proofs.Sum.{sum_beyond}
use Rattle.finite.proofs.Only.{sum_bound}
use Rattle.mask.specs.Mask.{bit, below, cardinality}
use Rattle.mask.proofs.Laws.{below_has, cardinality_ones}
use Rattle.table.specs.declared.Table.{Table}
use Rattle.schedule.specs.declared.Timing.{Timing}
use Rattle.rows.specs.declared.Rows.{Rows}
use Rattle.rows.specs.declared.Messages.{Messages}
use Rattle.partial.specs.declared.Sizes.{Sizes}
use Rattle.partial.specs.declared.State.{State}
use Rattle.nogoods.specs.declared.Mode.{Mode}
use Rattle.region.specs.Lends.{Lends}
use Rattle.candidates.proofs.Choosing.{below_more, open_below}
use Rattle.capacity_bound.specs.CapacityBound.{Weighable}

-- no more than there are tasks
open_few : (left : ℕ) → T (below 24 left) → cardinality 32 left ≤ 24
open_few left b = omega (arith, sum_beyond 24 32 (bit left) (omega arith) (λ j h k. none j h (ℕ_discrete (bit left j) 1)), sum_bound 24 (bit left) 1 (λ j l. omega arith))
  where
    none : (j : ℕ) → 24 ≤ j → Dec (bit left j ≡ 1) → bit left j ≡ 0
    none j h (yes e) = absurd (omega (arith, below_has 24 left b j (rw e tt)))
    none j h (no e) = omega arith

-- the set digits of the mask count them
pub open_ones : (left : ℕ) → T (below 24 left) → (cardinality 32 left ≡ ones left) × (ones left ≤ 24)
open_ones left b = let e = cardinality_ones 32 left (omega (arith, ltb→lt left (2 ^ 24) b)) in (e, omega (arith, open_few left b))

-- of a state that can be weighed
pub weighable_ones : {t : Table} {sizes : Sizes} {timing : Timing} {rows : Rows} {links : Messages} {mode : Mode} {s : State} {sets list : List ℕ} {count : ℕ}
    → Lends t sizes timing rows links → Weighable t mode s sets list count → T (below 24 s.left) × (cardinality 32 s.left ≡ ones s.left) × (ones s.left ≤ 24)
weighable_ones {s = s} l w = let b = below_more _ 24 _ l.rules.sound.tasks.most (open_below w.fits) in let o = open_ones s.left b in (b, o.0, o.1)
