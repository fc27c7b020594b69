-- One bound on a region after another. Assumes nothing.
use mathlib.Core.Bool.{false, false≢true}
use mathlib.Core.List.{List}
use Prim.Native.Nat.{ℕ}
use Rattle.table.specs.declared.Table.{Table}
use Rattle.timing.specs.Timing.{tasks_in}
use Rattle.nogoods.specs.declared.Mode.{Mode}
use Rattle.nogoods.specs.Nogoods.{Nogoods}
use Rattle.nogoods.proofs.Growth.{extended_refl, extended_trans}
use Rattle.nogoods.proofs.Verdicts.{bad_grows}
use Rattle.partial.specs.declared.State.{State}
use Rattle.candidates.proofs.Choosing.{choice_map}
use Rattle.capacity_bound.specs.declared.Bounded.{Bounded}
use Rattle.capacity_bound.specs.Bound.{BoundedAs}
use Rattle.capacity_bound.specs.CapacityBound.{Weighable}

-- the candidates stay so while the list grows
pub weighable_then : {t : Table} {mode : Mode} {s : State} {sets old new : List ℕ} {before : ℕ} → Weighable t mode s sets old before → (b : Bounded) → BoundedAs t mode s old before new b
    → Weighable t mode s sets new b.count
weighable_then {t} {mode} w b u = record {
  fits = w.fits;
  nogoods = u.list.nogoods;
  choices = λ p low. choice_map (λ y. bad_grows (tasks_in t) mode.listing y u.list.grows) (w.choices p low);
}

-- a region that is not given up
pub bounded_not : {t : Table} {mode : Mode} {s : State} {list : List ℕ} {count : ℕ} → Nogoods (tasks_in t) list count
    → BoundedAs t mode s list count list (record { hopeless = false; count = count })
bounded_not w = record { list = extended_refl w; answer = λ e. absurd (false≢true e) }

-- after another bound
pub bounded_then : {t : Table} {x y : Mode} {s : State} {old mid new : List ℕ} {before : ℕ} (a b : Bounded) → BoundedAs t x s old before mid a
    → BoundedAs t y s mid a.count new b → BoundedAs t y s old before new b
bounded_then a b u v = record { list = extended_trans u.list v.list; answer = v.answer }
