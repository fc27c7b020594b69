-- `record_verdict` meets its contract. Assumes nothing.
use mathlib.Core.Path.{◌≡◌, ap}
use Prim.Native.Nat.{◌+◌}
use native.Mathlib.Omega.{arith}
use borrow.Author.Tests.{lt-ltb, le-ltb, le-leb, lt-leb}
use borrow.Author.Rules.{rules}
use lib.ListN.{length}
use Rattle.layout.specs.declared.Shape.{Shape}
use Rattle.layout.specs.Format.{size}
use Rattle.verdict.specs.Faults.{record_verdict, record_cut, out_of_order, too_many}
use Rattle.layout.proofs.EachKind.{order_below}
use Rattle.verdict.proofs.record_verdict.Goals as goal

pub shape_of-shape-requires : goal.shape_of-shape-requires
unfolding record_verdict record_cut out_of_order too_many
shape_of-shape-requires c = search rules

pub returns-then-file-at : goal.returns-then-file-at
unfolding record_verdict record_cut out_of_order too_many
returns-then-file-at c =
    let a = c.args in
    let e = c.shape_of-shape.ensures in
    let w : c.shape_of-shape.result.size ≡ size a.kind = ap (λ (h : Shape). h.size) e in
    simp (lt-ltb (length a.file.now) (a.at + size a.kind) (omega (arith, w, c.if-file-at.true)))

pub returns-then-order-x : goal.returns-then-order-x
unfolding record_verdict record_cut out_of_order too_many
returns-then-order-x c =
    let a = c.args in
    let e = c.shape_of-shape.ensures in
    let w : c.shape_of-shape.result.size ≡ size a.kind = ap (λ (h : Shape). h.size) e in
    simp (le-ltb (length a.file.now) (a.at + size a.kind) (omega (arith, w, c.if-file-at.false)), lt-ltb _ _ (rw e at c.if-order-x.true))

pub offset_bounds-x-order : goal.offset_bounds-x-order
unfolding record_verdict record_cut out_of_order too_many
offset_bounds-x-order c = omega (arith, ap (λ (h : Shape). h.order) c.shape_of-shape.ensures, order_below c.args.kind)

pub bounds-x-order : goal.bounds-x-order
unfolding record_verdict record_cut out_of_order too_many
bounds-x-order c = omega (arith, ap (λ (h : Shape). h.order) c.shape_of-shape.ensures, order_below c.args.kind)

pub returns-then-shape-x : goal.returns-then-shape-x
unfolding record_verdict record_cut out_of_order too_many
returns-then-shape-x c =
    let a = c.args in
    let e = c.shape_of-shape.ensures in
    let w : c.shape_of-shape.result.size ≡ size a.kind = ap (λ (h : Shape). h.size) e in
    simp (le-ltb (length a.file.now) (a.at + size a.kind) (omega (arith, w, c.if-file-at.false)), le-ltb _ _ (rw e at c.if-order-x.false), le-leb _ _ (rw e at c.if-shape-x.true))

pub content_verdict-requires : goal.content_verdict-requires
unfolding record_verdict record_cut out_of_order too_many
content_verdict-requires c =
    let a = c.args in
    let e = c.shape_of-shape.ensures in
    let w : c.shape_of-shape.result.size ≡ size a.kind = ap (λ (h : Shape). h.size) e in
    (c.requires, omega (arith, w, c.if-file-at.false))

pub returns : goal.returns
unfolding record_verdict record_cut out_of_order too_many
returns c =
    let a = c.args in
    let e = c.shape_of-shape.ensures in
    let w : c.shape_of-shape.result.size ≡ size a.kind = ap (λ (h : Shape). h.size) e in
    simp (
      le-ltb (length a.file.now) (a.at + size a.kind) (omega (arith, w, c.if-file-at.false)),
      le-ltb _ _ (rw e at c.if-order-x.false),
      lt-leb _ _ (rw e at c.if-shape-x.false),
    ) c.content_verdict.ensures
