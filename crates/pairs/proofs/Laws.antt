-- What the response calculation of a pair of tasks needs. Assumes nothing.
use mathlib.Core.Path.{◌≡◌}
use mathlib.Core.List.{List}
use Prim.Native.Nat.{ℕ, ◌<◌}
use Rattle.mask.specs.Mask.{insert_of}
use Rattle.mask.proofs.Laws.{insert_below}
use Rattle.schedule.specs.Arrays.{InLimits}
use Rattle.schedule.proofs.TasksOfArrays.{with_set}
use Rattle.schedule.specs.declared.Timing.{Timing}

-- two tasks where there was none
pub pair_limits : {n : ℕ} {rows : Timing} {i j one two : ℕ} → InLimits n rows 0 → i < n → j < n → one ≡ insert_of 0 i → two ≡ insert_of one j → InLimits n rows two
pair_limits {n} {rows} {i} {j} {one} {two} l a b e f = with_set l two (rw f (insert_below n one j (rw e (insert_below n 0 i l.inside a)) b))
