-- The parts are added; each is small, so their sum fits 32 bits.
use borrow.Author.Rules.{rules}
use borrow.Author.Tests.{lt-ltb, le-ltb}
use Rattle.static_order.specs.StaticOrder.{base_of}
use Rattle.static_order.proofs.base_of.Goals as goal

pub returns-then-instance-k : goal.returns-then-instance-k
unfolding base_of
returns-then-instance-k c = rw (le-ltb _ _ c.if-instance-k.true)

pub strangers-others-requires : goal.strangers-others-requires
unfolding base_of
strangers-others-requires c = search rules

pub bulk-size-requires : goal.bulk-size-requires
unfolding base_of
bulk-size-requires c = search rules

pub density-density-requires : goal.density-density-requires
unfolding base_of
density-density-requires c = search rules

pub messages_weight-sent-requires : goal.messages_weight-sent-requires
unfolding base_of
messages_weight-sent-requires c = search rules

pub returns : goal.returns
unfolding base_of
returns c =
    rw (lt-ltb _ _ c.if-instance-k.false, c.strangers-others.ensures.0, c.bulk-size.ensures.0, c.density-density.ensures.0, c.messages_weight-sent.ensures.0)
