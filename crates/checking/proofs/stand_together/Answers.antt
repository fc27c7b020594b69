-- `stand_together` meets its contract. Assumes nothing.
use mathlib.Core.Path.{sym, ◌∙◌}
use Rattle.finite.proofs.Search.{search_start, search_next, some_found, some_missed}
use Rattle.rules.specs.Sets.{two_of}
use Rattle.checking.proofs.stand_together.Goals as goal

pub loop-p-init : goal.loop-p-init
unfolding two_of
loop-p-init c = search_start

pub returns-then-at_least_two : goal.returns-then-at_least_two
unfolding two_of
returns-then-at_least_two c =
    sym (some_found c.loop-p.invariant c.loop-p-test.true (sym c.at_least_two.ensures ∙ c.if-at_least_two.true))

pub loop-p-preserved : goal.loop-p-preserved
unfolding two_of
loop-p-preserved c =
    search_next c.loop-p.invariant c.loop-p-test.true (sym c.at_least_two.ensures ∙ c.if-at_least_two.false)

pub returns : goal.returns
unfolding two_of
returns c = sym (some_missed c.loop-p.invariant c.loop-p-test.false)
