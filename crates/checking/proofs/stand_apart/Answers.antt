-- `stand_apart` meets its contract. Assumes nothing.
use mathlib.Core.Path.{sym, ◌∙◌}
use borrow.Author.Tests.{eq-eqb, ne_eqb}
use Rattle.finite.proofs.Search.{search_start, search_next, some_found, some_missed}
use Rattle.rules.specs.Placement.{apart}
use Rattle.rules.specs.Sets.{meets}
use Rattle.checking.proofs.stand_apart.Goals as goal
use Rattle.checking.proofs.stand_apart.Goals.{else-sets-p-ne0-via-then-sets-p-ne0+else-stands_elsewhere, else-sets-p-ne0-via-else-sets-p-ne0}

pub loop-p-init : goal.loop-p-init
unfolding apart meets
loop-p-init c = search_start

pub returns-then-stands_elsewhere : goal.returns-then-stands_elsewhere
unfolding apart meets
returns-then-stands_elsewhere c =
    sym (some_found c.loop-p.invariant c.loop-p-test.true
    (simp (ne_eqb _ _ c.if-sets-p-ne0.true, sym c.stands_elsewhere.ensures ∙ c.if-stands_elsewhere.true)))

pub loop-p-preserved : goal.loop-p-preserved
unfolding apart meets
loop-p-preserved c =
    elim c.else-sets-p-ne0.branch [
      | else-sets-p-ne0-via-then-sets-p-ne0+else-stands_elsewhere w ↦
          search_next c.loop-p.invariant c.loop-p-test.true (simp (ne_eqb _ _ w.if-sets-p-ne0.true, sym w.stands_elsewhere.ensures ∙ w.if-stands_elsewhere.false))
      | else-sets-p-ne0-via-else-sets-p-ne0 w ↦ search_next c.loop-p.invariant c.loop-p-test.true (simp (eq-eqb _ _ w.if-sets-p-ne0.false))
    ]

pub returns : goal.returns
unfolding apart meets
returns c = sym (some_missed c.loop-p.invariant c.loop-p-test.false)
