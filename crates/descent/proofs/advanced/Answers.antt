-- By what the step finds.
use mathlib.Core.Path.{refl}
use borrow.Author.Rules.{rules}
use Rattle.descent.specs.Descent.{advanced_of}
use Rattle.descent.proofs.advanced.Goals as goal

pub adapt-adapted-requires : goal.adapt-adapted-requires
unfolding advanced_of
adapt-adapted-requires c = search rules

pub returns-then-adapted : goal.returns-then-adapted
unfolding advanced_of
returns-then-adapted c = rw (← c.adapt-adapted.ensures, c.if-adapted.true) refl

pub returns-else-adapted : goal.returns-else-adapted
unfolding advanced_of
returns-else-adapted c = rw (← c.adapt-adapted.ensures, c.if-adapted.false) refl
