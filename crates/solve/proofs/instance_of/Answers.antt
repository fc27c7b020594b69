-- The rows of the table are what the search asks to be lent.
use native.Mathlib.Omega.{arith}
use Rattle.static_order.proofs.Kept.{ordered_rows}
use Rattle.solve.proofs.Solving.{lends_table, order_limits}
use Rattle.solve.proofs.instance_of.Goals as goal

pub ordered-guided-requires : goal.ordered-guided-requires
ordered-guided-requires c =
    let h = c.requires in
    let sizes = c.sizes_of-sizes.ensures in
    (order_limits h sizes c.timing_of-timing.ensures, omega (arith, h.processors.most, sizes.processors), omega (arith, h.messages.most, sizes.messages))

pub returns : goal.returns
returns c =
    let kept = ordered_rows _ _ _ _ _ c.ordered-guided.ensures in
    lends_table c.requires c.sizes_of-sizes.ensures c.timing_of-timing.ensures c.rows_of-rows.ensures c.messages_of-messages.ensures kept
