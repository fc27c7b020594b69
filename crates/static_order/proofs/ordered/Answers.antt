-- The three rows are the definition's, and each is stored at its place.
use borrow.Author.Rules.{rules}
use Rattle.static_order.specs.StaticOrder.{ordered_of}
use Rattle.static_order.proofs.ordered.Goals as goal

pub weights_of-weights-requires : goal.weights_of-weights-requires
unfolding ordered_of
weights_of-weights-requires c = search rules

pub order_of-order-requires : goal.order_of-order-requires
unfolding ordered_of
order_of-order-requires c = search rules

pub bases_of-bases-requires : goal.bases_of-bases-requires
unfolding ordered_of
bases_of-bases-requires c = search rules

pub returns : goal.returns
unfolding ordered_of
returns c = rw (c.order_of-order.ensures, c.bases_of-bases.ensures, c.weights_of-weights.ensures)
