-- The placements with the task on an earlier processor are settled; the good placement at hand says that one takes it.
use native.Mathlib.Omega.{arith}
use mathlib.Core.Path.{refl, ◌∙◌}
use Prim.Native.Nat.{◌<◌}
use Rattle.first.proofs.Placing.{step_taken, placing_next, passing_start, passing_trying, passing_next, taken_good, taken_nogoods, first_whole, first_taken, not_missed}
use Rattle.first.proofs.+first.Goals as goal

pub returns-then-k-instance : goal.returns-then-k-instance
returns-then-k-instance t c = λ u l w k. (first_whole c.args.listed w l.rules.sound (omega (arith, l.rules.tasks, c.if-k-instance.true)), k)

pub loop-p-init : goal.loop-p-init
loop-p-init t c = (omega arith, refl, λ u l w k. (passing_start c.args.listed w, k))

pub try_processor-tried-requires : goal.try_processor-tried-requires
try_processor-tried-requires t c =
    let b = c.requires in
    let v = c.loop-p.invariant.2 b.0 b.1 b.2 b.3 in
    ((b.0, b.1, passing_trying v.0 b.2, v.1), omega (arith, b.2.upto, b.1.rules.tasks, c.if-k-instance.false), c.loop-p-test.true)

pub step-requires : goal.step-requires
step-requires t c =
    let a = c.requires in
    ((a.0, a.1.rules, a.2.fits), a.2.open_from _ (omega arith) (omega (arith, a.2.upto, a.1.rules.tasks, c.if-k-instance.false)), c.loop-p-test.true)

pub unwrap-next-requires : goal.unwrap-next-requires
unwrap-next-requires t c =
    let a = c.requires in
    let u = a.0 in
    let l = a.1 in
    let w = a.2 in
    let v = c.loop-p.invariant.2 u l w a.3 in
    let y = c.try_processor-tried.ensures u l (passing_trying v.0 w) v.1 in
    let good = taken_good v.0 w _ c.try_processor-tried.result y.0 c.in-Some.is in
    step_taken l.rules.sound w c.loop-p.p good c.step.result (c.step.ensures.1 u l.rules w.fits)

pub overflow_add-k : goal.overflow_add-k
overflow_add-k t c =
    let a = c.requires in
    omega (arith, a.2.upto, a.1.rules.sound.tasks.most)

pub first-requires : goal.first-requires
first-requires t c =
    let a = c.requires in
    let u = a.0 in
    let l = a.1 in
    let w = a.2 in
    let v = c.loop-p.invariant.2 u l w a.3 in
    let y = c.try_processor-tried.ensures u l (passing_trying v.0 w) v.1 in
    let e = c.in-Some.is in
    let below : c.args.k < u.tasks.count = omega (arith, w.upto, l.rules.tasks, c.if-k-instance.false) in
    let good = taken_good v.0 w _ c.try_processor-tried.result y.0 e in
    let step = rw c.unwrap-next.ensures at (c.step.ensures.1 u l.rules w.fits) in
    (omega (arith, c.decreases, below, l.rules.tasks), (u, l, placing_next l.rules.sound w below (taken_nogoods v.0 w _ c.try_processor-tried.result y.0 e) good step, y.1))

pub shape_of-list-in-Some : goal.shape_of-list-in-Some
shape_of-list-in-Some t c =
    c.first.auto.list
    ∙ c.try_processor-tried.auto.list
    ∙ c.loop-p.invariant.1

pub returns-in-Some : goal.returns-in-Some
returns-in-Some t c =
    λ u l w k. let v = c.loop-p.invariant.2 u l w k in
    let y = c.try_processor-tried.ensures u l (passing_trying v.0 w) v.1 in
    let e = c.in-Some.is in
    let below : c.args.k < u.tasks.count = omega (arith, w.upto, l.rules.tasks, c.if-k-instance.false) in
    let good = taken_good v.0 w _ c.try_processor-tried.result y.0 e in
    let step = rw c.unwrap-next.ensures at (c.step.ensures.1 u l.rules w.fits) in
    let z = c.first.ensures u l (placing_next l.rules.sound w below (taken_nogoods v.0 w _ c.try_processor-tried.result y.0 e) good step) y.1 in
    (first_taken v.0 w _ c.try_processor-tried.result y.0 e below step c.first.result z.0, z.1)

pub loop-p-smaller : goal.loop-p-smaller
loop-p-smaller t c = omega arith

pub loop-p-preserved : goal.loop-p-preserved
loop-p-preserved t c = (
  omega arith,
  c.try_processor-tried.auto.list ∙ c.loop-p.invariant.1,
  λ u l w k. let v = c.loop-p.invariant.2 u l w k in
      let y = c.try_processor-tried.ensures u l (passing_trying v.0 w) v.1 in
      (passing_next v.0 w _ c.try_processor-tried.result y.0 (omega (arith, w.upto, l.rules.tasks, c.if-k-instance.false)) c.in_default.is, y.1),
)

pub returns : goal.returns
returns t c =
    λ u l w k. absurd (not_missed (c.loop-p.invariant.2 u l w k).0 w (omega (arith, w.upto, l.rules.tasks, c.if-k-instance.false)) (omega (arith, l.rules.processors, c.loop-p-test.false)))
