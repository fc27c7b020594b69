-- No number of the blocks so far passes the test.
use mathlib.Core.Path.{sym}
use native.Mathlib.Omega.{arith}
use Rattle.finite.proofs.Search.{search_start, part_found, part_missed, part_last}
use Rattle.answer.proofs.first_that.Goals as goal

pub loop-j-init : goal.loop-j-init
loop-j-init g c = (omega arith, λ p w. search_start)

pub first_in-i-requires-clause-asked : goal.first_in-i-requires-clause-asked
first_in-i-requires-clause-asked g c = λ k l. c.requires k (omega arith)

pub returns-then-i-lt-BLOCK : goal.returns-then-i-lt-BLOCK
returns-then-i-lt-BLOCK g c =
    λ p w. sym (part_found (c.loop-j.invariant.1 p w) 16 (c.first_in-i.ensures.first p (λ k l. w k (omega arith))) (omega arith) c.if-i-lt-BLOCK.true)

pub loop-j-preserved : goal.loop-j-preserved
loop-j-preserved g c = (
  omega arith,
  λ p w. part_missed (c.loop-j.invariant.1 p w) 16 (c.first_in-i.ensures.first p (λ k l. w k (omega arith))) (omega arith) c.if-i-lt-BLOCK.false,
)

pub first_in-requires-clause-asked : goal.first_in-requires-clause-asked
first_in-requires-clause-asked g c = λ k l. c.requires k (omega arith)

pub overflow_add-result-2 : goal.overflow_add-result-2
overflow_add-result-2 g c = record { fits = omega (arith, c.first_in.ensures.upto) }

pub returns : goal.returns
returns g c = λ p w. sym (part_last (c.loop-j.invariant.1 p w) _ (c.first_in.ensures.first p (λ k l. w k (omega arith))) (omega arith))
