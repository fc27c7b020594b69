-- The loop has the masks of the tasks below i.
use borrow.Author.Rules.{rules}
use Rattle.timing.proofs.HigherLoops.{rows_start, rows_next, rows_end}
use Rattle.timing.proofs.higher.Goals as goal

pub loop-i-init : goal.loop-i-init
loop-i-init c = rows_start

pub loop-i-preserved : goal.loop-i-preserved
loop-i-preserved c = rows_next c.loop-i.invariant c.requires (search rules) c.higher_than-row.ensures

pub returns : goal.returns
returns c = rows_end c.loop-i.invariant (search rules)
