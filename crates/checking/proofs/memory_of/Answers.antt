-- `memory_of` meets its contract. Assumes nothing.
use mathlib.Core.Path.{sym, ◌∙◌}
use mathlib.Core.Logic.{⊎_elim}
use native.Mathlib.Omega.{arith}
use Rattle.mask.specs.Mask.{sum_over}
use Rattle.rules.specs.Sets.{memory_of}
use Rattle.finite.proofs.SumLoop.{summing_start, summing_in, summing_out, summing_end}
use Rattle.checking.proofs.memory_of.Goals as goal

pub loop-k-init : goal.loop-k-init
unfolding memory_of sum_over
loop-k-init c = summing_start

pub overflow_add-sum : goal.overflow_add-sum
unfolding memory_of sum_over
overflow_add-sum c = record { fits = omega (arith, c.loop-k.invariant.small, c.requires, c.wide-sum.ensures) }

pub loop-k-preserved : goal.loop-k-preserved
unfolding memory_of sum_over
loop-k-preserved c =
    ⊎_elim
    (λ w. rw w.sum-is (summing_in c.loop-k.invariant c.loop-k-test.true (sym c.has.ensures ∙ w.if-has.true) w.wide-sum.ensures.0 (omega (arith, w.wide-sum.ensures))))
    (λ w. rw w.sum-is (summing_out c.loop-k.invariant c.loop-k-test.true (sym c.has.ensures ∙ w.if-has.false)))
    c.if-has.branch-raw

pub returns : goal.returns
unfolding memory_of sum_over
returns c = summing_end c.loop-k.invariant c.loop-k-test.false
