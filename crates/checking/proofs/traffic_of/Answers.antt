-- `traffic_of` meets its contract. Assumes nothing.
use mathlib.Core.Path.{sym, ◌∙◌}
use mathlib.Core.Logic.{⊎_elim}
use native.Mathlib.Omega.{arith}
use Rattle.rules.specs.Rules.{traffic}
use Rattle.finite.proofs.SumLoop.{summing_start, summing_in, summing_out, summing_end}
use Rattle.checking.proofs.traffic_of.Goals as goal

pub loop-j-init : goal.loop-j-init
unfolding traffic
loop-j-init c = summing_start

pub overflow_add-sum : goal.overflow_add-sum
unfolding traffic
overflow_add-sum c = record { fits = omega (arith, c.loop-j.invariant.small, c.requires.messages.most, c.amount_of-sum.ensures) }

pub loop-j-preserved : goal.loop-j-preserved
unfolding traffic
loop-j-preserved c =
    ⊎_elim
    (λ w. rw w.sum-is (summing_in c.loop-j.invariant c.loop-j-test.true (sym c.crosses.ensures ∙ w.if-crosses.true) w.amount_of-sum.ensures.0 w.amount_of-sum.ensures.1))
    (λ w. rw w.sum-is (summing_out c.loop-j.invariant c.loop-j-test.true (sym c.crosses.ensures ∙ w.if-crosses.false)))
    c.if-crosses.branch-raw

pub returns : goal.returns
unfolding traffic
returns c = summing_end c.loop-j.invariant c.loop-j-test.false
