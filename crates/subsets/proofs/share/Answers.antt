-- `share` meets its contract. Assumes nothing.
use mathlib.Core.Path.{refl, sym, ◌∙◌}
use native.Mathlib.Omega.{arith}
use Rattle.subsets.proofs.share.Goals as goal

pub returns-then-has : goal.returns-then-has
returns-then-has c = (rw (sym c.has.ensures ∙ c.if-has.true) c.wide.ensures.0, c.wide.ensures.1)

pub returns : goal.returns
returns c = (rw (sym c.has.ensures ∙ c.if-has.false) refl, omega arith)
