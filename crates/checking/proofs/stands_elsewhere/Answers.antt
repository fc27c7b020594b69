-- `stands_elsewhere` meets its contract. Assumes nothing.
use mathlib.Core.Path.{sym}
use borrow.Author.Tests.{eq-eqb, ne_eqb}
use Rattle.finite.proofs.Search.{search_start, search_next, some_found, some_missed}
use Rattle.rules.specs.Placement.{elsewhere}
use Rattle.rules.specs.Sets.{meets}
use Rattle.checking.proofs.stands_elsewhere.Goals as goal
use Rattle.checking.proofs.stands_elsewhere.Goals.{else-q-p-via-then-q-p+else-sets-q-ne0, else-q-p-via-else-q-p}

pub loop-q-init : goal.loop-q-init
unfolding elsewhere meets
loop-q-init c = search_start

pub returns-then-sets-q-ne0 : goal.returns-then-sets-q-ne0
unfolding elsewhere meets
returns-then-sets-q-ne0 c =
    sym (some_found c.loop-q.invariant c.loop-q-test.true (simp (ne_eqb _ _ c.if-q-p.true, ne_eqb _ _ c.if-sets-q-ne0.true)))

pub loop-q-preserved : goal.loop-q-preserved
unfolding elsewhere meets
loop-q-preserved c =
    elim c.else-q-p.branch [
      | else-q-p-via-then-q-p+else-sets-q-ne0 w ↦ search_next c.loop-q.invariant c.loop-q-test.true (simp (ne_eqb _ _ w.if-q-p.true, eq-eqb _ _ w.if-sets-q-ne0.false))
      | else-q-p-via-else-q-p w ↦ search_next c.loop-q.invariant c.loop-q-test.true (simp (eq-eqb _ _ w.if-q-p.false))
    ]

pub returns : goal.returns
unfolding elsewhere meets
returns c = sym (some_missed c.loop-q.invariant c.loop-q-test.false)
