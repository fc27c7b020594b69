-- `loads_of` meets its contract. Assumes nothing.
use borrow.Author.Rules.{rules}
use Rattle.table.proofs.Filling.{fill_start, fill_put, fill_end}
use Rattle.rows.specs.Rows.{loads_of}
use Rattle.rows.proofs.loads_of.Goals as goal

pub loop-k-init : goal.loop-k-init
unfolding loads_of
loop-k-init c = fill_start _ _ _

pub load_at-load-requires : goal.load_at-load-requires
unfolding loads_of
load_at-load-requires c = c.requires

pub loop-k-preserved : goal.loop-k-preserved
unfolding loads_of
loop-k-preserved c = fill_put c.loop-k.invariant (search rules) c.load_at-load.ensures

pub returns : goal.returns
unfolding loads_of
returns c = fill_end c.loop-k.invariant c.loop-k-test.false
