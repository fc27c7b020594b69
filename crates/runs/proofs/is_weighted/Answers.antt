-- By the tests.
use mathlib.Core.Path.{refl}
use borrow.Author.Tests.{lt-ltb, le-ltb}
use Rattle.runs.proofs.is_weighted.Goals as goal

pub returns-then-run-gt1 : goal.returns-then-run-gt1
returns-then-run-gt1 c = rw (lt-ltb _ _ c.if-run-gt1.true) refl

pub returns-else-run-gt1 : goal.returns-else-run-gt1
returns-else-run-gt1 c = rw (le-ltb _ _ c.if-run-gt1.false) refl
