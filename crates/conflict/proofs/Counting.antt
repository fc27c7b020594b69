-- Counting late sets: the loop's steps. Assumes nothing.
use mathlib.Core.Path.{◌≡◌, refl}
use mathlib.Core.Bool.{Bool, true, false}
use Prim.Native.Nat.{ℕ, ◌+◌}
use native.Mathlib.Numerals.{add-one}
use native.Mathlib.Omega.{arith}
use Rattle.finite.specs.Finite.{sum_to}
use Rattle.mask.specs.Mask.{has}
use Rattle.schedule.specs.Periodic.{LateSet}
use Rattle.schedule.specs.Response.{late_test}
use Rattle.schedule.specs.Arrays.{InLimits, tasks_of, Says}
use Rattle.schedule.proofs.LateSets.{late_says}
use Rattle.schedule.proofs.TasksOfArrays.{valid_of, constrained_of}
use Rattle.schedule.specs.declared.Timing.{Timing}

says_same : (A : Type 0) (a b : Bool) → Says a A → Says b A → a ≡ b
says_same A true true p q = refl
says_same A true false p q = absurd (q p)
says_same A false true p q = absurd (p q)
says_same A false false p q = refl

-- the answer that is right of the tick run is the test by responses
pub late_is : {n : ℕ} {rows : Timing} {set : ℕ} → InLimits n rows set → (r : Bool)
    → Says r (LateSet (tasks_of n rows) (has set)) → r ≡ late_test (tasks_of n rows) (has set)
late_is {n} {rows} {set} l r h = says_same (LateSet (tasks_of n rows) (has set)) r (late_test (tasks_of n rows) (has set)) h (late_says (tasks_of n rows) (valid_of l) (has set) (constrained_of l))

pub count_more : (f : ℕ → ℕ) (j : ℕ) {count r : ℕ} → count ≡ sum_to j f → r ≡ f j → count + r ≡ sum_to (j + 1) f
unfolding sum_to
count_more f j e h = rw add-one (omega arith)
