-- One measure after another, until the region is given up.
use mathlib.Core.Path.{refl, ◌∙◌}
use Rattle.capacity_bound.proofs.Bounding.{weighable_then, bounded_not, bounded_then}
use Rattle.bound.proofs.Bounding.{bounded_open}
use Rattle.bound.proofs.by_rows.Goals as goal

pub loop-measure-init : goal.loop-measure-init
loop-measure-init c = (refl, λ t l w k. (bounded_not w.nogoods, k))

pub weigh-weighed-requires : goal.weigh-weighed-requires
weigh-weighed-requires c =
    let z = c.requires in
    let b = c.loop-measure.invariant.1 z.0 z.1 z.2 z.3 in
    ((z.0, z.1, weighable_then z.2 _ b.0, b.1), λ _. c.weights_in-weights.ensures)

pub returns-then-bounded : goal.returns-then-bounded
returns-then-bounded c = λ t l w k.
    let b = c.loop-measure.invariant.1 t l w k in
    let a = c.weigh-weighed.ensures.0 t l (weighable_then w _ b.0) b.1 in
    (bounded_then _ c.weigh-weighed.result.bounded b.0 a.0, a.1)

pub loop-measure-preserved : goal.loop-measure-preserved
loop-measure-preserved c = (
  c.weigh-weighed.auto.list ∙ c.loop-measure.invariant.0,
  λ t l w k.
      let b = c.loop-measure.invariant.1 t l w k in
      let a = c.weigh-weighed.ensures.0 t l (weighable_then w _ b.0) b.1 in
      (bounded_open c.weigh-weighed.result.bounded (bounded_then _ c.weigh-weighed.result.bounded b.0 a.0), a.1),
)

pub returns : goal.returns
returns c = c.loop-measure.invariant.1
