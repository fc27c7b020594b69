-- Both shares are worked out in the same way, and the larger one is returned.
use mathlib.Core.Path.{◌≡◌, ◌∙◌}
use native.Mathlib.Omega.{arith}
use borrow.Author.Rules.{rules}
use Rattle.static_order.specs.StaticOrder.{load_share, memory_share, scaled_of, bulk_of}
use Rattle.static_order.proofs.bulk.Lts as lts
use Rattle.static_order.proofs.bulk.Reads as reads
use Rattle.static_order.proofs.bulk.Tie as tie
use Rattle.static_order.proofs.bulk.Goals as goal

by_load : (c : lts.After-scaled tie.the-claims reads.Pre reads.Post) → let a = c.args in c.scaled-by_load.result ≡ scaled_of (load_share a.rows.now a.s a.k) a.processors
by_load c = c.scaled-by_load.ensures.0 ∙ rw (c.millionths.ensures.0, c.sum_of.ensures.0, c.wide.ensures.0)

by_memory : (c : lts.After-scaled2 tie.the-claims reads.Pre reads.Post) → let a = c.args in c.scaled-by_memory.result ≡ scaled_of (memory_share a.rows.now a.s a.k) a.processors
by_memory c = c.scaled-by_memory.ensures.0 ∙ rw (c.millionths-2.ensures.0, c.sum_of-2.ensures.0, c.wide-2.ensures.0)

pub wide-requires : goal.wide-requires
unfolding bulk_of
wide-requires c = search rules

pub sum_of-requires : goal.sum_of-requires
unfolding bulk_of
sum_of-requires c = search rules

pub millionths-requires : goal.millionths-requires
unfolding bulk_of
millionths-requires c = search rules

pub scaled-by_load-requires : goal.scaled-by_load-requires
unfolding bulk_of
scaled-by_load-requires c = search rules

pub scaled-by_memory-requires : goal.scaled-by_memory-requires
unfolding bulk_of
scaled-by_memory-requires c = search rules

pub returns-then-by_load-by_memory : goal.returns-then-by_load-by_memory
unfolding bulk_of
returns-then-by_load-by_memory c = (omega (arith, by_load c.before.before.before.before.before.before.before, by_memory c.before.before), search rules)

pub returns-else-by_load-by_memory : goal.returns-else-by_load-by_memory
unfolding bulk_of
returns-else-by_load-by_memory c = (omega (arith, by_load c.before.before.before.before.before.before.before, by_memory c.before.before), search rules)
