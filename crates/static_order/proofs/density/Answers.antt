-- `density` meets its contract. Assumes nothing.
use borrow.Author.Rules.{rules}
use borrow.Author.Tests.{eq-eqb, ne_eqb}
use Rattle.static_order.specs.StaticOrder.{density_of}
use Rattle.static_order.proofs.density.Goals as goal

pub returns-then-deadline-eq0 : goal.returns-then-deadline-eq0
unfolding density_of
returns-then-deadline-eq0 c = (rw (eq-eqb _ _ c.if-deadline-eq0.true), search rules)

pub wide-requires : goal.wide-requires
unfolding density_of
wide-requires c = search rules

pub lower-requires : goal.lower-requires
unfolding density_of
lower-requires c = search rules

pub returns : goal.returns
unfolding density_of
returns c =
    (rw (ne_eqb _ _ c.if-deadline-eq0.false, c.lower.ensures, c.wide.ensures.0, c.wide-2.ensures.0), search rules)
