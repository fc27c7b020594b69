-- By the tests.
use mathlib.Core.Path.{refl}
use borrow.Author.Tests.{eq-eqb, ne_eqb}
use Rattle.narrowing.proofs.reaches.Goals as goal

pub returns-then-instance-ne0 : goal.returns-then-instance-ne0
returns-then-instance-ne0 c = rw (ne_eqb _ _ c.if-instance-ne0.true) refl

pub returns : goal.returns
returns c = rw (eq-eqb _ _ c.if-instance-ne0.false) refl
