-- Pairs of tasks that can never stand on one processor, by the rules or because they are late together. Assumes nothing.
use Rattle.std.specs.Prelude.{Bool, not, ◌&&◌, ◌||◌, List, ℕ, ◌+◌, eqb, leb, get_or}
use Rattle.finite.specs.Finite.{only, sum_to, some_below}
use Rattle.mask.specs.Mask.{has, insert_of}
use Rattle.schedule.specs.Response.{late_test}
use Rattle.schedule.specs.Arrays.{tasks_of}
use Rattle.partial.specs.declared.Sizes.{Sizes}
use Rattle.partial.specs.declared.State.{State}
use Rattle.schedule.specs.declared.Timing.{Timing}
use Rattle.rows.specs.declared.Rows.{Rows}

-- the number in a row for task i and that for task j, together
abbrev together : List ℕ → ℕ → ℕ → ℕ
together row i j = get_or row i 0 + get_or row j 0

-- both tasks may reside on processor p, and it has the memory and the load for both
unfoldable pub takes_both : Rows → State → ℕ → ℕ → ℕ → Bool
takes_both rows s i j p =
    (has (get_or rows.residence i 0) p && has (get_or rows.residence j 0) p)
    && (leb (together rows.memory i j) (get_or s.memory p 0) && leb (together rows.load i j) (get_or s.load p 0))

-- none of the processors takes both
unfoldable pub nowhere : Rows → State → ℕ → ℕ → ℕ → Bool
nowhere rows s processors i j = not (some_below processors (takes_both rows s i j))

-- the set of the two tasks is late
unfoldable pub late_pair : Timing → ℕ → ℕ → ℕ → Bool
late_pair timing n i j = late_test (tasks_of n timing) (has (insert_of (insert_of 0 i) j))

-- two tasks that can never stand on one processor: j is excluded from i, or no processor takes both, or they are late together
unfoldable pub apart : Timing → Rows → Sizes → State → ℕ → ℕ → Bool
apart timing rows sizes s i j =
    not (eqb i j)
    && (has (get_or rows.exclusions i 0) j || (nowhere rows s sizes.processors i j || late_pair timing sizes.tasks i j))

-- how many tasks can never stand beside task i
unfoldable pub strangers_of : Timing → Rows → Sizes → State → ℕ → ℕ
strangers_of timing rows sizes s i = sum_to sizes.tasks (λ j. only (apart timing rows sizes s i j) 1)
