-- `has_either` meets its contract. Assumes nothing.
use mathlib.Core.Path.{sym, ◌∙◌}
use Rattle.network_bound.proofs.has_either.Goals as goal

pub returns-then-has : goal.returns-then-has
returns-then-has c = simp (sym c.has.ensures ∙ c.if-has.true)

pub returns : goal.returns
returns c = simp (sym c.has.ensures ∙ c.if-has.false) c.has-2.ensures
