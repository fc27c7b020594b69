-- A placement as the code holds it: the set of tasks on each processor, as masks.
use Rattle.std.specs.Prelude.{◌≡◌, Bool, not, ◌&&◌, List, ℕ, ◌*◌, ◌/◌, ◌≤◌, ◌<◌, T, leb, eqb, length, get_or}
use Rattle.std.specs.Int.Bits.{bit_and}
use Rattle.finite.specs.Finite.{some_below, first_below}
use Rattle.mask.specs.Mask.{has, cardinality, mask_of, sum_over}
use Rattle.table.specs.declared.Tasks.{Tasks}
use Rattle.table.specs.declared.Table.{Table}
use Rattle.table.specs.Table.{column}

-- task k is in the set of processor p
abbrev pub standing : List ℕ → ℕ → ℕ → Bool
standing sets k p = has (get_or sets p 0) k

-- bytes that name processors, for no more tasks than a table has
pub record Placeable (q : List ℕ) : Type 0 where
  pub few : length q ≤ 24
  pub known : (k : ℕ) → k < length q → get_or q k 0 < 8

-- the sets of a placement's tasks
unfoldable pub sets_of : List ℕ → List ℕ
sets_of q = column 8 8 (λ p. mask_of (length q) (λ k. eqb (get_or q k 0) p))

-- the bytes q name for each task the processor on which it stands
pub record Names (t : Table) (sets q : List ℕ) : Type 0 where
  pub long : length q ≡ 24
  pub known : (k : ℕ) → k < t.tasks.count → get_or q k 0 < t.processors.count
  pub there : (k : ℕ) → k < t.tasks.count → T (standing sets k (get_or q k 0))

-- the processor of task k, the lowest of the m that has it
abbrev pub processor_of : List ℕ → ℕ → ℕ → ℕ
processor_of sets m k = first_below m (standing sets k)

-- the processor of each of the n tasks, and zeros behind them
abbrev pub processors_of : List ℕ → ℕ → ℕ → List ℕ
processors_of sets n m = column 24 n (processor_of sets m)

-- the sets share a task
unfoldable pub meets : ℕ → ℕ → Bool
meets a b = not (eqb (bit_and a b) 0)

-- two of the group's tasks are in the set
unfoldable pub two_of : ℕ → ℕ → Bool
two_of group set = leb 2 (cardinality 32 (bit_and set group))

-- task k is in the set of a processor that is not in the mask
unfoldable pub outside_of : List ℕ → ℕ → ℕ → ℕ → Bool
outside_of sets m k mask = some_below m (λ p. standing sets k p && not (has mask p))

-- the memory and the load of the tasks in the set
unfoldable pub memory_of : Tasks → ℕ → ℕ
memory_of a set = sum_over a.count set (λ k. get_or a.memory k 0)

-- 01: 1 ≤ C ≤ T ≤ 1,000,000, which keeps loads small
pub record Works (a : Tasks) : Type 0 where
  pub few : a.count ≤ 24
  pub some_period : (k : ℕ) → k < a.count → 1 ≤ get_or a.t k 0
  pub within : (k : ℕ) → k < a.count → get_or a.c k 0 ≤ get_or a.t k 0
  pub ticks : (k : ℕ) → k < a.count → get_or a.t k 0 ≤ 1000000

unfoldable pub load_of : Tasks → ℕ → ℕ → ℕ
load_of a h set = sum_over a.count set (λ k. get_or a.c k 0 * h / get_or a.t k 0)

-- a response of 0 marks a task that misses its deadline
abbrev pub missed : List ℕ → ℕ → Bool
missed responses k = eqb (get_or responses k 0) 0
