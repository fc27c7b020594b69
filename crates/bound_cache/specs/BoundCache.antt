-- What is kept of the bounds on what a processor can take, and of the sets known late: what the search has learnt.
use Rattle.std.specs.Prelude.{◌≡◌, Bool, ◌&&◌, cond, List, ◌∷◌, [], Option, Some, None, ℕ, ◌+◌, ◌*◌, ◌/◌, ◌%◌, ◌≤◌, ◌<◌, eqb, length, get_or, set}
use Rattle.mask.specs.Mask.{Subset}
use Rattle.table.specs.declared.Table.{Table}
use Rattle.schedule.specs.Periodic.{LateSet}
use Rattle.timing.specs.Timing.{tasks_in}
use Rattle.rows.specs.Rows.{loads_of, exclusions_of}
use Rattle.late_cache.specs.LateCache.{LateCache}
use Rattle.nogoods.specs.Nogoods.{KnownSets}
use Rattle.knapsack.specs.Knapsack.{weight_of, Takes}
use Rattle.bound_cache.specs.declared.Key.{Key}
use Rattle.bound_cache.specs.declared.Entry.{Entry}
use Rattle.rows.specs.declared.Rows.{Rows}
use Rattle.rows.specs.declared.Measure.{Measure}
use Rattle.rows.specs.declared.Measure.TheVariants.{Load, Memory, Both, Other}

-- the weights of a row by its number: 0 by load, 1 by memory, 2 by both; the rows behind them are no weights
abbrev pub weights_at : Rows → ℕ → List ℕ
weights_at rows w = get_or (rows.load ∷ rows.memory ∷ rows.weight ∷ rows.exclusions ∷ rows.partners ∷ rows.order ∷ rows.base ∷ []) w []

-- top bounds the weight, by their row, of the candidates that can join the tasks on a processor with that much memory (space) and load (spare) left
pub record Capped (t : Table) (rows : Rows) (key : Key) (top : ℕ) : Type 0 where
  pub bounds : (x : ℕ) → Takes t.tasks.count t.tasks.memory (exclusions_of t) (loads_of t) (LateSet (tasks_in t)) key.on key.space key.spare x → Subset x key.candidates
      → weight_of t.tasks.count (weights_at rows key.row) x ≤ top

-- an entry of zeros: it has no candidates
abbrev pub empty : Entry
empty = record { key = record { on = 0; candidates = 0; row = 0; space = 0; spare = 0 }; top = 0 }

-- 2,048 entries, each of them true
pub record BoundCache (t : Table) (rows : Rows) (bounds : List Entry) : Type 0 where
  pub long : length bounds ≡ 2048
  pub entries : (j : ℕ) → j < 2048 → let entry = get_or bounds j empty in Capped t rows entry.key entry.top

-- the two tables that the search fills, as long as no list of conflicts is in hand
pub record Learnt (t : Table) (rows : Rows) (lateness : List ℕ) (bounds : List Entry) : Type 0 where
  pub knows : LateCache (tasks_in t) lateness
  pub keeps : BoundCache t rows bounds

-- the same beside a list of conflicts
pub record LearntOf (t : Table) (list : List ℕ) (count : ℕ) (rows : Rows) (lateness : List ℕ) (bounds : List Entry) : Type 0 where
  pub knows : KnownSets (tasks_in t) list count lateness
  pub keeps : BoundCache t rows bounds

-- the number of the row of weights by a measure, 3 for weights that are no row
abbrev pub number_of : Measure → ℕ
number_of Load = 0
number_of Memory = 1
number_of Both = 2
number_of Other = 3

-- the number of the entry for these tasks, candidates, row and memory left: the high bits of a sum of products
unfoldable pub entry_of : Key → ℕ
entry_of key =
    (key.on * 2654435761 % 4294967296 + key.candidates * 2246822519 % 4294967296 + key.space % 4294967296 * 3266489917 % 4294967296 + key.row % 4096 * 668265263) % 4294967296 / 2097152

-- the two are the same
abbrev pub same_key : Key → Key → Bool
same_key a b = eqb a.on b.on && (eqb a.candidates b.candidates && (eqb a.row b.row && (eqb a.space b.space && eqb a.spare b.spare)))

-- what is found for a key: the bound of its entry, where that is for the key
abbrev pub recall_of : List Entry → Key → Option ℕ
recall_of bounds key =
    let entry = get_or bounds (entry_of key) empty in
    cond (same_key entry.key key) (Some entry.top) None

-- the table with its entry anew
abbrev pub keep_of : List Entry → Key → ℕ → List Entry
keep_of bounds key top = set bounds (entry_of key) (record { key = key; top = top })
