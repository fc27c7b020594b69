-- `sum_of` meets its contract. Assumes nothing.
use mathlib.Core.Path.{refl}
use native.Mathlib.Omega.{arith}
use Rattle.finite.proofs.SumLoop.{summing_start, summing_in, summing_end}
use Rattle.capacity_bound.proofs.sum_of.Goals as goal

pub loop-p-init : goal.loop-p-init
loop-p-init c = summing_start

pub overflow_add-sum : goal.overflow_add-sum
overflow_add-sum c = omega (arith, c.loop-p.invariant.small, c.requires.0, c.requires.1 c.loop-p.p)

pub loop-p-preserved : goal.loop-p-preserved
loop-p-preserved c = summing_in c.loop-p.invariant c.loop-p-test.true refl refl (c.requires.1 c.loop-p.p)

pub returns : goal.returns
returns c = summing_end c.loop-p.invariant c.loop-p-test.false
