-- No number of the blocks so far passes the test.
use mathlib.Core.Bool.{Bool}
use Prim.Native.Nat.{ℕ, ◌-◌, ◌≤◌}
use Rattle.finite.proofs.Search.{Searched}
use Rattle.answer.specs.Asking.{Answers}
use Rattle.answer.proofs.first_that.Given as goal

abbrev pub invariant-loop-j : goal.invariant-loop-j
invariant-loop-j g l = (l.j ≤ l.count) × ((p : ℕ → Bool) → Answers (goal.F-post g l.test) l.count p → Searched l.count p l.j)

abbrev pub decreases-loop-j : goal.decreases-loop-j
decreases-loop-j g l = l.count - l.j
