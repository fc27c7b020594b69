-- `count_of` meets its contract. Assumes nothing.
use mathlib.Core.Path.{ap}
use native.Mathlib.Omega.{arith}
use Rattle.layout.specs.declared.Shape.{Shape}
use Rattle.layout.proofs.EachKind.{order_below}
use Rattle.layout.proofs.count_of.Goals as goal

pub offset_bounds-x-order : goal.offset_bounds-x-order
offset_bounds-x-order c = omega (arith, ap (λ (h : Shape). h.order) c.shape_of-shape.ensures, order_below c.args.kind)

pub bounds-x-order : goal.bounds-x-order
bounds-x-order c = omega (arith, ap (λ (h : Shape). h.order) c.shape_of-shape.ensures, order_below c.args.kind)

pub returns : goal.returns
returns c = simp (ap (λ (h : Shape). h.order) c.shape_of-shape.ensures)
