-- The processors' bounds are made tighter one after the other; their sum is known at each step.
use mathlib.Core.Path.{refl, ◌∙◌}
use native.Mathlib.Omega.{arith}
use lib.ListN.{get_or, length-set}
use Rattle.finite.proofs.Only.{sum_bound}
use Rattle.candidates.proofs.Choosing.{below_more, open_below, eligible_below}
use Rattle.subgradient.specs.Subgradient.{heaviest}
use Rattle.capacity_bound.proofs.Weighted.{weight_among}
use Rattle.capacity_bound.proofs.Tightening.{tops_start, tightening_start, tightening_topped, tightening_next, tightening_end}
use Rattle.capacity_bound.proofs.weigh.Goals as goal

pub total-need-requires : goal.total-need-requires
total-need-requires c = let z = c.requires in below_more _ 24 _ z.0.1.rules.sound.tasks.most (open_below z.0.2.fits)

pub tops_of-tops-requires : goal.tops_of-tops-requires
tops_of-tops-requires c =
    let z = c.requires in
    let l = z.0.1.rules in (
      omega (arith, l.processors, l.sound.processors.most),
      λ p low. below_more _ 24 _ l.sound.tasks.most (eligible_below z.0.2.fits (z.0.2.choices p (omega (arith, l.processors))).eligible),
    )

pub sum_of-sum-requires : goal.sum_of-sum-requires
sum_of-sum-requires c =
    let l = c.requires.0.1.rules in
    (omega (arith, l.processors, l.sound.processors.most), c.tops_of-tops.ensures.1)

pub loop-p-init : goal.loop-p-init
loop-p-init c = (
  omega arith,
  c.tops_of-tops.ensures.0,
  c.sum_of-sum.ensures,
  refl,
  λ t l x k. (
    tightening_start x.nogoods (tops_start l.rules c.requires.1 x.fits (λ p low. (x.choices p low).eligible) c.tops_of-tops.ensures.1 c.tops_of-tops.ensures.2),
    k,
  ),
  refl,
  omega arith,
)

pub tighten-tight-requires : goal.tighten-tight-requires
tighten-tight-requires c =
    let z = c.requires in
    let v = c.loop-p.invariant.4 z.0.0 z.0.1 z.0.2 z.0.3 in
    ((z.0.0, z.0.1, tightening_topped v.0 z.0.2, v.1), z.1, c.loop-p-test.true)

pub offset_bounds-tops-p : goal.offset_bounds-tops-p
offset_bounds-tops-p c =
    let l = c.requires.0.1.rules in
    omega (arith, c.loop-p-test.true, l.processors, l.sound.processors.most)

pub bounds-tops-p : goal.bounds-tops-p
bounds-tops-p c =
    let l = c.requires.0.1.rules in
    omega (arith, c.loop-p-test.true, l.processors, l.sound.processors.most)

pub offset_bounds-found-p : goal.offset_bounds-found-p
offset_bounds-found-p c =
    let l = c.requires.0.1.rules in
    omega (arith, c.loop-p-test.true, l.processors, l.sound.processors.most)

pub bounds-found-p : goal.bounds-found-p
bounds-found-p c =
    let l = c.requires.0.1.rules in
    omega (arith, c.loop-p-test.true, l.processors, l.sound.processors.most)

pub overflow_add-calls : goal.overflow_add-calls
overflow_add-calls c =
    let l = c.requires.0.1.rules in
    omega (arith, c.tighten-tight.ensures.1, c.loop-p.invariant.6, c.loop-p-test.true, l.processors, l.sound.processors.most)

pub sum_of-sum-requires-in-loop-p : goal.sum_of-sum-requires-in-loop-p
sum_of-sum-requires-in-loop-p c =
    let z = c.requires in
    let l = z.0.1.rules in
    let v = c.loop-p.invariant.4 z.0.0 z.0.1 z.0.2 z.0.3 in (
      omega (arith, l.processors, l.sound.processors.most),
      (tightening_next v.0 (omega (arith, c.loop-p.invariant.1, c.loop-p-test.true, l.processors, l.sound.processors.most)) c.tighten-tight.result
          (c.tighten-tight.ensures.0 z.0.0 z.0.1 (tightening_topped v.0 z.0.2) v.1).0).holds.small,
    )

pub overflow_add-p : goal.overflow_add-p
overflow_add-p c =
    let l = c.requires.0.1.rules in
    omega (arith, c.loop-p-test.true, l.processors, l.sound.processors.most)

pub loop-p-preserved : goal.loop-p-preserved
loop-p-preserved c = (
  omega (arith, c.loop-p-test.true),
  simp length-set c.loop-p.invariant.1,
  c.sum_of-sum-in-loop-p.ensures,
  c.tighten-tight.auto.list ∙ c.loop-p.invariant.3,
  λ t l w k.
      let v = c.loop-p.invariant.4 t l w k in
      let a = c.tighten-tight.ensures.0 t l (tightening_topped v.0 w) v.1 in
      (tightening_next v.0 (omega (arith, c.loop-p.invariant.1, c.loop-p-test.true, l.rules.processors, l.rules.sound.processors.most)) c.tighten-tight.result a.0, a.1),
  simp length-set c.loop-p.invariant.5,
  omega (arith, c.tighten-tight.ensures.1, c.loop-p.invariant.6),
)

pub returns : goal.returns
returns c =
    let z = c.requires in
    let y = z.0.1.rules in
    let g = c.loop-p.invariant.4 in
    let small = (g z.0.0 z.0.1 z.0.2 z.0.3).0.holds.small in (
      λ t l w k.
          let a = g t l w k in
          let b = below_more _ 24 _ l.rules.sound.tasks.most (open_below w.fits) in
          (tightening_end a.0 l.rules.sound w (rw (← l.rules.processors) c.loop-p.invariant.2) (weight_among c.args.weighting.now.weights _ b c.total-need.ensures.0 _ (open_below w.fits)), a.1),
      omega (arith, c.gap_of.ensures, c.loop-p.invariant.2, y.processors, y.sound.processors.most, sum_bound c.args.instance.now.sizes.processors (λ p. get_or c.loop-p.tops p 0) heaviest (λ p _. small p)),
      omega (arith, c.loop-p.invariant.0, c.loop-p.invariant.6, y.processors, y.sound.processors.most),
    )
