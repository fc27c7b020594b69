-- The processors are asked one by one.
use mathlib.Core.Logic.{⊎_elim}
use mathlib.Core.Path.{refl}
use native.Mathlib.Omega.{arith}
use borrow.Author.Rules.{rules}
use Rattle.finite.proofs.SumLoop.{summing_start, summing_in, summing_out, summing_end}
use Rattle.branching.proofs.choices.Goals as goal

pub loop-p-init : goal.loop-p-init
loop-p-init c = summing_start

pub loop-p-preserved : goal.loop-p-preserved
loop-p-preserved c =
    ⊎_elim
    (λ w. rw w.found-is (summing_in c.loop-p.invariant c.loop-p-test.true (rw c.has.ensures at w.if-has.true) refl (omega arith)))
    (λ w. rw w.found-is (summing_out c.loop-p.invariant c.loop-p-test.true (rw c.has.ensures at w.if-has.false)))
    c.if-has.branch-raw

pub returns : goal.returns
returns c = (summing_end c.loop-p.invariant c.loop-p-test.false, search rules)
