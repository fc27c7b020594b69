-- `with_record` meets its contract. Assumes nothing.
use mathlib.Core.Path.{ap}
use native.Mathlib.Omega.{arith}
use Prim.Native.Nat.{ℕ}
use lib.ListN.{get_or}
use Rattle.layout.specs.declared.Shape.{Shape}
use Rattle.layout.proofs.EachKind.{order_below}
use Rattle.layout.proofs.Places.{longest_is, most_longest}
use Rattle.table.proofs.with_record.Goals as goal

pub offset_bounds-x-order : goal.offset_bounds-x-order
offset_bounds-x-order c = omega (arith, ap (λ (h : Shape). h.order) c.shape_of-shape.ensures, order_below c.args.taken.kind)

pub bounds-x-order : goal.bounds-x-order
bounds-x-order c = omega (arith, ap (λ (h : Shape). h.order) c.shape_of-shape.ensures, order_below c.args.taken.kind)

pub overflow_add-next : goal.overflow_add-next
overflow_add-next c = let a = c.args in omega (arith, ap (λ (o : ℕ). get_or a.x.counts o 0) (ap (λ (h : Shape). h.order) c.shape_of-shape.ensures), c.requires.1, most_longest a.taken.kind, longest_is)

pub offset_bounds-next-order : goal.offset_bounds-next-order
offset_bounds-next-order c = omega (arith, ap (λ (h : Shape). h.order) c.shape_of-shape.ensures, order_below c.args.taken.kind)

pub bounds-next-order : goal.bounds-next-order
bounds-next-order c = omega (arith, ap (λ (h : Shape). h.order) c.shape_of-shape.ensures, order_below c.args.taken.kind)

pub returns : goal.returns
returns c = rw c.shape_of-shape.ensures
