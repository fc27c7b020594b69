-- `stands_outside` meets its contract. Assumes nothing.
use mathlib.Core.Path.{sym, ◌∙◌}
use Rattle.finite.proofs.Search.{search_start, search_next, some_found, some_missed}
use Rattle.rules.specs.Sets.{outside_of}
use Rattle.checking.proofs.stands_outside.Goals as goal
use Rattle.checking.proofs.stands_outside.Goals.{else-has-via-then-has+else-not-has, else-has-via-else-has}

pub loop-p-init : goal.loop-p-init
unfolding outside_of
loop-p-init c = search_start

pub returns-then-not-has : goal.returns-then-not-has
unfolding outside_of
returns-then-not-has c =
    sym (some_found c.loop-p.invariant c.loop-p-test.true
    (simp (sym c.has.ensures ∙ c.if-has.true, sym c.has-then-has.ensures ∙ c.if-not-has.true)))

pub loop-p-preserved : goal.loop-p-preserved
unfolding outside_of
loop-p-preserved c =
    elim c.else-has.branch [
      | else-has-via-then-has+else-not-has w ↦
          search_next c.loop-p.invariant c.loop-p-test.true (simp (sym c.has.ensures ∙ w.if-has.true, sym w.has-then-has.ensures ∙ w.if-not-has.false))
      | else-has-via-else-has w ↦ search_next c.loop-p.invariant c.loop-p-test.true (simp (sym c.has.ensures ∙ w.if-has.false))
    ]

pub returns : goal.returns
unfolding outside_of
returns c = sym (some_missed c.loop-p.invariant c.loop-p-test.false)
