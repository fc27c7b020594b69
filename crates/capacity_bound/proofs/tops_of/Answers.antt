-- `tops_of` meets its contract. Assumes nothing.
use mathlib.Core.Path.{refl}
use native.Mathlib.Omega.{arith}
use lib.ListN.{length-set}
use Rattle.capacity_bound.proofs.Weighted.{topping_start, topping_next}
use Rattle.capacity_bound.proofs.tops_of.Goals as goal

pub loop-p-init : goal.loop-p-init
loop-p-init c = (omega arith, refl, topping_start)

pub top-requires : goal.top-requires
top-requires c = c.requires.1 _ c.loop-p-test.true

pub loop-p-preserved : goal.loop-p-preserved
loop-p-preserved c =
    let i = c.loop-p.invariant in
    (omega arith, simp length-set i.1, topping_next i.2 (omega (arith, i.1, c.requires.0, c.loop-p-test.true)) c.top.ensures)

pub returns : goal.returns
returns c = let i = c.loop-p.invariant in (i.1, i.2.small, λ p l. i.2.bounds p (omega arith))
