-- The set of the two tasks lies within the tasks, and its lateness is the test's.
use mathlib.Core.Path.{◌∙◌}
use borrow.Author.Rules.{rules}
use Rattle.schedule.specs.Arrays.{InLimits}
use Rattle.conflict.proofs.Counting.{late_is}
use Rattle.pairs.specs.Pairs.{late_pair}
use Rattle.pairs.proofs.Laws.{pair_limits}
use Rattle.pairs.proofs.late_pair.Lts as lts
use Rattle.pairs.proofs.late_pair.Reads as reads
use Rattle.pairs.proofs.late_pair.Tie as tie
use Rattle.pairs.proofs.late_pair.Goals as goal

limits : (c : lts.After-insert2 tie.the-claims reads.Pre reads.Post) → let a = c.args in InLimits a.n a.timing.now c.insert-pair.result
limits c = let a = c.requires in pair_limits a.0 a.1 a.2 c.insert.ensures c.insert-pair.ensures

pub insert-requires : goal.insert-requires
unfolding late_pair
insert-requires c = search rules

pub insert-pair-requires : goal.insert-pair-requires
unfolding late_pair
insert-pair-requires c = search rules

pub is_late-requires : goal.is_late-requires
unfolding late_pair
is_late-requires c = limits c

pub returns : goal.returns
unfolding late_pair
returns c = late_is (limits c.before) _ c.is_late.ensures ∙ rw (c.insert-pair.ensures, c.insert.ensures)
