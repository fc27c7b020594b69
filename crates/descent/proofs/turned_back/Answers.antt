-- By the test.
use mathlib.Core.Path.{refl}
use borrow.Author.Tests.{lt-ltb, le-ltb}
use Rattle.descent.specs.Descent.{turned_back_of}
use Rattle.descent.proofs.turned_back.Goals as goal

pub returns-then-descent-patience : goal.returns-then-descent-patience
unfolding turned_back_of
returns-then-descent-patience c = rw (lt-ltb _ _ c.if-descent-patience.true) refl

pub returns : goal.returns
unfolding turned_back_of
returns c = rw (le-ltb _ _ c.if-descent-patience.false) refl
