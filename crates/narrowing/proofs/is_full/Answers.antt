-- By the tests.
use mathlib.Core.Path.{refl}
use borrow.Author.Tests.{not-true, not-false}
use Rattle.narrowing.proofs.is_full.Goals as goal

pub returns-then-not-mode : goal.returns-then-not-mode
returns-then-not-mode c = rw (not-true c.args.mode.listing c.if-not-mode.true) refl

pub returns : goal.returns
returns c = rw (not-false c.args.mode.listing c.if-not-mode.false) c.is_full.ensures
