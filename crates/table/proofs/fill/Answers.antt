-- `fill` meets its contract. Assumes nothing.
use native.Mathlib.Omega.{arith}
use Rattle.table.proofs.Filling.{fill_start, fill_put, fill_end}
use Rattle.table.proofs.fill.Goals as goal

pub loop-j-init : goal.loop-j-init
loop-j-init c = fill_start _ _ _

pub entry-requires : goal.entry-requires
entry-requires c = c.requires

pub loop-j-preserved : goal.loop-j-preserved
loop-j-preserved c = fill_put c.loop-j.invariant (omega (arith, c.loop-j.invariant.long, c.loop-j-test.true)) c.entry.ensures

pub shape_of-out : goal.shape_of-out
shape_of-out c = c.loop-j.invariant.long

pub returns : goal.returns
returns c = fill_end c.loop-j.invariant (omega (arith, c.loop-j.invariant.long, c.loop-j-test.false))
