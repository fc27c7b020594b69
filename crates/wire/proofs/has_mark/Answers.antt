-- `has_mark` compares the two bytes of a mark.
use borrow.Author.Tests.{eq-eqb, ne_eqb}
use Rattle.wire.specs.Wire.{mark_at}
use Rattle.wire.proofs.has_mark.Goals as goal

pub returns-then-s-at : goal.returns-then-s-at
unfolding mark_at
returns-then-s-at c = simp (eq-eqb _ _ c.if-s-at.true)

pub returns : goal.returns
unfolding mark_at
returns c = simp (ne_eqb _ _ c.if-s-at.false)
