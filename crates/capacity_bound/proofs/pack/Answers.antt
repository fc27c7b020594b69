-- What the packing finds, by the table's rows.
use native.Mathlib.Omega.{arith}
use Rattle.region.proofs.Lending.{lent_tasks, lent_limits, set_below}
use Rattle.candidates.proofs.Choosing.{below_more, eligible_below}
use Rattle.capacity_bound.proofs.Weighted.{lower_is, weight_among}
use Rattle.capacity_bound.proofs.Tightening.{tight_packed, packed_as}
use Rattle.capacity_bound.proofs.pack.Goals as goal

pub total-reach-requires : goal.total-reach-requires
total-reach-requires c =
    let z = c.requires in
    let l = z.0.1 in
    below_more _ 24 _ l.rules.sound.tasks.most (eligible_below z.0.2.fits (z.0.2.eligible _ (rw (← l.rules.processors) z.1)))

pub most-packed-requires : goal.most-packed-requires
most-packed-requires c =
    let z = c.requires in
    let l = z.0.1 in
    let b = eligible_below z.0.2.fits (z.0.2.eligible _ (rw (← l.rules.processors) z.1)) in (
      record { limits = lent_limits l (set_below z.0.2.fits.partial _); tasks = rw l.rules.tasks b; nogoods = rw (lent_tasks l) z.0.2.nogoods },
      omega (arith, weight_among c.args.weighting.now.weights _ (below_more _ 24 _ l.rules.sound.tasks.most b) c.total-reach.ensures.0 c.args.instance.now.sizes.tasks (rw l.rules.tasks b)),
      rw (lent_tasks l) z.0.3,
    )

pub returns : goal.returns
returns c = (
  λ t l w k. (
    tight_packed w.holds (rw (← l.rules.processors) c.requires.1) l.rules.sound w.fits (w.eligible _ (rw (← l.rules.processors) c.requires.1)) c.most-packed.result (packed_as l c.most-packed.ensures.0) (lower_is _ _ c.lower.ensures),
    rw (lent_tasks l) at c.most-packed.ensures.1,
  ),
  omega (arith, c.calls_of.ensures),
)
