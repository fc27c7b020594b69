-- The tasks that may still stand on each processor: they stay right while tasks are placed and conflicts are listed. Assumes nothing.
use mathlib.Core.Path.{sym, subst}
use mathlib.Core.Bool.{Bool, true≢false}
use mathlib.Core.List.{List}
use Prim.Native.Nat.{ℕ}
use lib.Bits.{bit_and}
use lib.Dec.{T}
use Rattle.mask.specs.Mask.{has}
use Rattle.mask.proofs.Tests.{and_both, and_left, and_right}
use Rattle.mask.proofs.Laws.{has_and, remove_subset}
use Rattle.table.specs.declared.Table.{Table}
use Rattle.schedule.specs.Periodic.{LateSet}
use Rattle.rules.specs.Placement.{placed, and_task}
use Rattle.rules.specs.Sets.{standing}
use Rattle.timing.specs.Timing.{tasks_in}
use Rattle.nogoods.specs.declared.Mode.{Mode}
use Rattle.nogoods.specs.Nogoods.{lists}
use Rattle.partial.specs.declared.State.{State}
use Rattle.partial.specs.Partial.{Fits, Stepped}
use Rattle.region.specs.Region.{Within}
use Rattle.region.specs.Begins.{OthersRefuted, Narrowed, with_may, Stands, Begins}
use Rattle.region.proofs.Refuting.{and_part, and_within, and_there, refuted_map}

pub begins_stands : {t : Table} {mode : Mode} {s : State} {list : List ℕ} {count : ℕ} → Begins t mode s list count → Stands t mode s list count
begins_stands b = record { fits = b.fits; nogoods = b.nogoods; clear = b.clear }

-- where conflicts are listed, nothing more is asked
pub stands_lists : {t : Table} {s : State} {list : List ℕ} {count : ℕ} → Stands t lists s list count → Begins t lists s list count
stands_lists b = record { fits = b.fits; nogoods = b.nogoods; clear = b.clear; narrowed = λ e. absurd (true≢false e) }

-- of a state with other tasks that may still stand the same is known
module _ {t : Table} {s : State} (may : List ℕ) where
  pub fits_may : Fits t s → Fits t (with_may s may)
  fits_may f = record {
    partial = f.partial;
    keeps = f.keeps;
    open_task = f.open_task;
    placed_task = f.placed_task;
    memory_long = f.memory_long;
    memory = f.memory;
    load_long = f.load_long;
    load = f.load;
    traffic = f.traffic;
  }

  pub narrowed_may : {p set : ℕ} → Narrowed t s p set → Narrowed t (with_may s may) p set
  narrowed_may w = record { eligible = record { waits = w.eligible.waits; resides = w.eligible.resides }; others = w.others }

  pub stepped_may : {old : State} {k p : ℕ} → Stepped t old k p s → Stepped t old k p (with_may s may)
  stepped_may w = record { fits = fits_may w.fits; on = w.on; left = w.left }

module _ {t : Table} {s next : State} {k p : ℕ} (step : Stepped t s k p next) where
  -- what was refuted stays so with task k on p
  pub others_step : (r set : ℕ) → OthersRefuted t s r set → OthersRefuted t next r set
  others_step r set f j waits out =
      let more = subst (λ (on : ℕ → ℕ → Bool). (i m : ℕ) → T (standing s.on i m) → T (on i m)) (sym step.on) (and_part (standing s.on) k p) in
      refuted_map t (LateSet (tasks_in t)) (LateSet (tasks_in t)) (Within (and_task (standing s.on) j r)) (Within (and_task (standing next.on) j r)) (λ x b. b)
      (λ q w u. and_within (standing s.on) j r (placed q) (λ i m v. u i m (and_part (standing next.on) j r i m (more i m v))) (u j r (and_there (standing next.on) j r)))
      (f j (remove_subset s.left k j (rw step.left at waits)) out)

  -- a processor that is not tested anew loses the tasks that are not open any more
  pub narrowed_step : {r set : ℕ} → Narrowed t s r set → Narrowed t next r (bit_and set next.left)
  narrowed_step {r} {set} w = record {
    eligible = record {
      waits = λ j u. and_right (has set j) (has next.left j) (rw (has_and set next.left j) at u);
      resides = λ j u. w.eligible.resides j (and_left (has set j) (has next.left j) (rw (has_and set next.left j) at u));
    };
    others = λ j waits out. others_step r set w.others j waits (λ u. out (rw (has_and set next.left j) (and_both (has set j) (has next.left j) u waits)));
  }
