-- Which open tasks may still stand on each processor, as the state keeps it.
use Rattle.std.specs.Prelude.{Bool, true, false, not, ◌&&◌, ◌||◌, cond, List, ℕ, eqb, get_or, replicate}
use Rattle.std.specs.Int.Bits.{bit_and}
use Rattle.std.specs.Option.{is_some}
use Rattle.mask.specs.Mask.{has, insert_of, mask_of}
use Rattle.table.specs.Table.{column}
use Rattle.schedule.specs.Periodic.{Tasks}
use Rattle.schedule.specs.Response.{late_test}
use Rattle.schedule.specs.Arrays.{tasks_of}
use Rattle.partial.specs.declared.Sizes.{Sizes}
use Rattle.partial.specs.declared.Site.{Site}
use Rattle.partial.specs.declared.State.{State}
use Rattle.partial.specs.Partial.{site_of}
use Rattle.partial.specs.Tests.{trial_of}
use Rattle.nogoods.specs.declared.Mode.{Mode}
use Rattle.nogoods.specs.Nogoods.{full, covered_by}
use Rattle.schedule.specs.declared.Timing.{Timing}
use Rattle.rows.specs.declared.Rows.{Rows}
use Rattle.rows.specs.declared.Messages.{Messages}

-- the search would pass over the set x: it is late; or, with a full list of conflicts, it holds one of them
abbrev pub passed_over : Tasks → Bool → List ℕ → ℕ → ℕ → Bool
passed_over tasks full list count x = cond full (covered_by list count x) (late_test tasks (has x))

module _ (timing : Timing) (rows : Rows) (links : Messages) (sizes : Sizes) (full : Bool) (list : List ℕ) (count : ℕ) where
  -- the open task k may stand on processor p: the rules allow it, and the search would not pass over the set
  abbrev pub may_stand : Site → ℕ → ℕ → Bool
  may_stand site p k = is_some (trial_of rows links sizes site k p) && not (passed_over (tasks_of sizes.tasks timing) full list count (insert_of site.on k))

  -- those of a set that may stand there
  unfoldable pub narrow_of : Site → ℕ → ℕ → ℕ
  narrow_of site p set = mask_of 32 (λ k. has set k && may_stand site p k)

  -- of each set the open tasks; on the processors that are tested anew, those of them that may stand there; zeros beyond the processors
  unfoldable pub may_of : State → List ℕ → ℕ → List ℕ
  may_of s sets anew = column 8 sizes.processors (λ p. let set = bit_and (get_or sets p 0) s.left in cond (has anew p) (narrow_of (site_of s p) p set) set)

  -- every open task is tested anew on each processor
  abbrev pub all_anew : State → List ℕ
  all_anew s = may_of s (replicate 8 s.left) (mask_of sizes.processors (λ p. true))

-- a task on a processor changes what may stand on others: it has partners, or messages go between tasks
abbrev pub reaches : Rows → Sizes → ℕ → Bool
reaches rows sizes k = not (eqb sizes.messages 0) || not (eqb (get_or rows.partners k 0) 0)

-- where a search begins: all anew
abbrev pub prepared_of : Timing → Rows → Messages → Sizes → State → Mode → List ℕ → ℕ → List ℕ
prepared_of timing rows links sizes s mode list count = all_anew timing rows links sizes (mode.listing && full list count) list count s

-- in the state s after task k was put on p: p is tested anew, and the others where the task reaches them; all of them where the list is full, which closes fewer sets
abbrev pub refreshed_of : Timing → Rows → Messages → Sizes → State → ℕ → ℕ → Mode → List ℕ → ℕ → List ℕ
refreshed_of timing rows links sizes s k p mode list count =
    cond (mode.listing && full list count) (all_anew timing rows links sizes true list count s)
    (may_of timing rows links sizes false list count s s.may (cond (reaches rows sizes k) (mask_of sizes.processors (λ r. true)) (insert_of 0 p)))
