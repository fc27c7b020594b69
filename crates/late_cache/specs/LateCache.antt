-- The cache of the sets that were tested for lateness.
use Rattle.std.specs.Prelude.{Bool, cond, List, ℕ, ◌+◌, ◌*◌, ◌/◌, ◌%◌, ◌<◌, eqb, get_or, set}
use mir.Val.{bool_byte}
use Rattle.mask.specs.Mask.{has}
use Rattle.schedule.specs.Periodic.{Tasks, LateSet}
use Rattle.schedule.specs.Arrays.{Says}

-- each of the first 65,536 words is twice a set, and one more where the set is late; where it stands says nothing.
-- A word 0 is the empty set, which is not late. Of the words behind them nothing is said.
pub record LateCache (s : Tasks) (lateness : List ℕ) : Type 0 where
  pub says : (j : ℕ) → j < 65536 → Says (eqb (get_or lateness j 0 % 2) 1) (LateSet s (has (get_or lateness j 0 / 2)))

-- where a set stands: the high bits of a product (Fibonacci hashing)
abbrev pub place_of : ℕ → ℕ
place_of x = x * 2654435761 % 4294967296 / 65536

-- the table after a set was asked for, with the verdict on it: as it was where its word has the set, else with that word anew
unfoldable pub with_verdict : List ℕ → ℕ → Bool → List ℕ
with_verdict lateness x late = cond (eqb (get_or lateness (place_of x) 0 / 2) x) lateness (set lateness (place_of x) (2 * x + bool_byte late))
