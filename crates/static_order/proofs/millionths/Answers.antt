-- `millionths` meets its contract. Assumes nothing.
use mathlib.Core.Path.{◌∙◌}
use borrow.Author.Rules.{rules}
use Rattle.static_order.specs.StaticOrder.{millionths_of}
use Rattle.static_order.proofs.millionths.Goals as goal

pub short-requires : goal.short-requires
unfolding millionths_of
short-requires c = search rules

pub lower-requires : goal.lower-requires
unfolding millionths_of
lower-requires c = search rules

pub returns : goal.returns
unfolding millionths_of
returns c = (c.lower.ensures ∙ rw c.short.ensures, search rules)
