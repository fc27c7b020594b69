-- By the test.
use mathlib.Core.Path.{refl}
use borrow.Author.Tests.{lt-ltb, le-ltb}
use Rattle.descent.specs.Descent.{compared_of}
use Rattle.descent.proofs.compared.Goals as goal

pub returns-then-gap-descent : goal.returns-then-gap-descent
unfolding compared_of
returns-then-gap-descent c = rw (lt-ltb _ _ c.if-gap-descent.true) refl

pub returns-else-gap-descent : goal.returns-else-gap-descent
unfolding compared_of
returns-else-gap-descent c = rw (le-ltb _ _ c.if-gap-descent.false) refl
