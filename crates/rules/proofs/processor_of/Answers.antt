-- `processor_of` meets its contract. Assumes nothing.
use mathlib.Core.Path.{sym, ◌∙◌}
use Rattle.finite.proofs.Search.{search_start, search_next, search_found, search_missed}
use Rattle.rules.proofs.processor_of.Goals as goal

pub loop-p-init : goal.loop-p-init
loop-p-init c = search_start

pub returns-then-has : goal.returns-then-has
returns-then-has c = sym (search_found c.loop-p.invariant c.loop-p-test.true (sym c.has.ensures ∙ c.if-has.true))

pub loop-p-preserved : goal.loop-p-preserved
loop-p-preserved c = search_next c.loop-p.invariant c.loop-p-test.true (sym c.has.ensures ∙ c.if-has.false)

pub returns : goal.returns
returns c = sym (search_missed c.loop-p.invariant c.loop-p-test.false)
