-- No processor passed over is interchangeable with p. Assumes nothing.
use native.Mathlib.Omega.{arith}
use borrow.Author.Count.{below_more}
use Rattle.schedule.proofs.Says.{says_yes, says_no}
use Rattle.symmetry.proofs.representative.Goals as goal

pub returns-then-s-p-ne0 : goal.returns-then-s-p-ne0
returns-then-s-p-ne0 c = λ t w. record { upto = omega arith; interchangeable = λ l. absurd (omega arith); least = λ q l i. c.if-s-p-ne0.true i.empty_q }

pub loop-q-init : goal.loop-q-init
loop-q-init c = (omega arith, λ t w j l i. omega arith)

pub interchangeable-requires : goal.interchangeable-requires
interchangeable-requires c = (c.requires, c.if-s-p-ne0.false, c.loop-q-test.true)

pub returns-then-interchangeable : goal.returns-then-interchangeable
returns-then-interchangeable c =
    λ t w. record { upto = c.loop-q.invariant.0; interchangeable = λ m. says_yes c.interchangeable.result _ (c.interchangeable.ensures t w) c.if-interchangeable.true; least = c.loop-q.invariant.1 t w }

pub loop-q-preserved : goal.loop-q-preserved
loop-q-preserved c =
    (omega arith, λ t w. below_more _ _ (c.loop-q.invariant.1 t w) (says_no c.interchangeable.result _ (c.interchangeable.ensures t w) c.if-interchangeable.false))

pub returns : goal.returns
returns c = λ t w. record { upto = omega arith; interchangeable = λ l. absurd (omega arith); least = λ q l. c.loop-q.invariant.1 t w q (omega arith) }
