-- No number passed so far passes the test.
use mathlib.Core.Bool.{Bool}
use Prim.Native.Nat.{ℕ, ◌+◌}
use Rattle.finite.proofs.Search.{Searched}
use Rattle.answer.specs.Asking.{Answers}
use Rattle.answer.proofs.first_in.Given as goal

abbrev pub invariant-loop-i : goal.invariant-loop-i
invariant-loop-i g l = (p : ℕ → Bool) → Answers (goal.F-post g l.test) (l.j + l.n) p → Searched l.n (λ k. p (l.j + k)) l.i
