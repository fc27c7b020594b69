-- Both tests hold, one after the other.
use mathlib.Core.Path.{sym, ◌∙◌}
use Rattle.mask.proofs.is_group.Goals as goal

pub returns-then-only_below : goal.returns-then-only_below
returns-then-only_below c = rw (sym c.only_below.ensures ∙ c.if-only_below.true) c.at_least_two.ensures

pub returns : goal.returns
returns c = simp (sym c.only_below.ensures ∙ c.if-only_below.false)
