-- The loop has the tasks of larger priority below j.
use borrow.Author.Rules.{rules}
use mathlib.Core.Logic.{⊎_elim}
use Rattle.timing.proofs.HigherLoops.{row_start, row_insert, row_skip, row_end}
use Rattle.timing.proofs.higher_than.Goals as goal

pub loop-j-init : goal.loop-j-init
loop-j-init c = row_start

pub loop-j-preserved : goal.loop-j-preserved
loop-j-preserved c =
    ⊎_elim
    (λ w. rw w.set-is (row_insert c.loop-j.invariant (search rules) w.if-priority-i.true w.insert-set.ensures))
    (λ w. rw w.set-is (row_skip c.loop-j.invariant (search rules) w.if-priority-i.false))
    c.if-priority-i.branch-raw

pub returns : goal.returns
returns c = row_end c.loop-j.invariant (search rules)
