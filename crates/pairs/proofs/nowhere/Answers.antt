-- The processors are tried one by one.
use Prim.Native.Nat.{◌-◌}
use borrow.Author.Rules.{rules}
use Rattle.finite.proofs.Search.{search_start, search_next, some_found, some_missed}
use Rattle.pairs.specs.Pairs.{takes_both, nowhere}
use Rattle.pairs.proofs.nowhere.Goals as goal

pub loop-p-init : goal.loop-p-init
unfolding nowhere
loop-p-init c = search_start

pub takes_both-requires : goal.takes_both-requires
unfolding nowhere
takes_both-requires c = search rules

pub returns-then-takes_both : goal.returns-then-takes_both
unfolding nowhere
returns-then-takes_both c = rw (some_found c.loop-p.invariant c.loop-p-test.true (rw c.takes_both.ensures at c.if-takes_both.true))

pub loop-p-preserved : goal.loop-p-preserved
unfolding nowhere
loop-p-preserved c = search_next c.loop-p.invariant c.loop-p-test.true (rw c.takes_both.ensures at c.if-takes_both.false)

pub returns : goal.returns
unfolding nowhere
returns c = rw (some_missed c.loop-p.invariant c.loop-p-test.false)
