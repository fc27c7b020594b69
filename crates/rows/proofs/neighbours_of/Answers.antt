-- `neighbours_of` meets its contract. Assumes nothing.
use borrow.Author.Rules.{rules}
use Rattle.table.proofs.Filling.{fill_start, fill_put, fill_end}
use Rattle.rows.specs.Rows.{neighbours_of}
use Rattle.rows.proofs.neighbours_of.Goals as goal

pub loop-k-init : goal.loop-k-init
unfolding neighbours_of
loop-k-init c = fill_start _ _ _

pub beside-set-requires : goal.beside-set-requires
unfolding neighbours_of
beside-set-requires c = c.requires

pub loop-k-preserved : goal.loop-k-preserved
unfolding neighbours_of
loop-k-preserved c = fill_put c.loop-k.invariant (search rules) c.beside-set.ensures

pub returns : goal.returns
unfolding neighbours_of
returns c = fill_end c.loop-k.invariant c.loop-k-test.false
