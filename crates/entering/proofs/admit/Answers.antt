-- What the rules refuse is not tested, and nothing is learnt; what the test leaves is said of the tasks of the table.
use Rattle.region.proofs.Lending.{lent_tasks, lent_limits, set_below}
use Rattle.entering.proofs.Tried.{step_may, enter_broken, enter_bad, enter_clear}
use Rattle.entering.proofs.admit.Goals as goal

pub returns-in_default : goal.returns-in_default
returns-in_default c = λ t l b k. (enter_broken l.rules.sound b c.args.k c.args.p (c.in_default.ensures.1 t l.rules b.fits), k)

pub test-tested-requires : goal.test-tested-requires
test-tested-requires c =
    let a = c.requires.0 in
    let step = c.in-Some.ensures.1 a.0 a.1.rules a.2.fits in
    (lent_limits a.1 (set_below step.fits.partial _), rw (lent_tasks a.1) a.2.nogoods, rw (lent_tasks a.1) a.3)

pub returns-then-tested : goal.returns-then-tested
returns-then-tested c =
    λ t l b k. let n = rw (lent_tasks l) at c.test-tested.ensures in
    (enter_bad l.rules.sound b c.args.k c.args.p (c.in-Some.ensures.1 t l.rules b.fits) c.test-tested.result n.0 c.if-tested.true, n.1)

pub returns-else-tested : goal.returns-else-tested
returns-else-tested c =
    λ t l b k. let n = rw (lent_tasks l) at c.test-tested.ensures in (
      enter_clear l.rules.sound b c.args.k c.args.p (c.in-Some.ensures.1 t l.rules b.fits) c.test-tested.result n.0 c.if-tested.false
          (step_may l.rules.sound b c.args.k c.args.p _ _ _ c.in-Some.ensures.0),
      n.1,
    )
