-- `amounts_of` meets its contract. Assumes nothing.
use borrow.Author.Rules.{rules}
use Rattle.table.proofs.Filling.{fill_start, fill_put, fill_end}
use Rattle.rows.specs.Rows.{amounts_of}
use Rattle.rows.proofs.amounts_of.Goals as goal

pub loop-j-init : goal.loop-j-init
unfolding amounts_of
loop-j-init c = fill_start _ _ _

pub amount_at-amount-requires : goal.amount_at-amount-requires
unfolding amounts_of
amount_at-amount-requires c = c.requires

pub loop-j-preserved : goal.loop-j-preserved
unfolding amounts_of
loop-j-preserved c = fill_put c.loop-j.invariant (search rules) c.amount_at-amount.ensures

pub returns : goal.returns
unfolding amounts_of
returns c = fill_end c.loop-j.invariant c.loop-j-test.false
