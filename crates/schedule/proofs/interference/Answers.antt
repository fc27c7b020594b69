-- The share of each member that comes goes into the sum.
use borrow.Author.Rules.{rules}
use native.Mathlib.Omega.{arith}
use Rattle.mask.proofs.Laws.{has_below}
use Rattle.mask.proofs.Visit.{visit_member}
use Rattle.mask.proofs.Summed.{summed_start, summed_fits, summed_next, summed_end}
use Rattle.schedule.proofs.Shares.{shares_bound}
use Rattle.schedule.proofs.interference.Goals as goal

pub loop-j-init : goal.loop-j-init
loop-j-init c = rw (c.into_iter-j-iterator.ensures.into_iter_gives, c.members-j-items.ensures) (summed_start (search rules))

pub offset_bounds-timing-j : goal.offset_bounds-timing-j
offset_bounds-timing-j c = record { fits = omega (arith, c.requires.0.few _ (visit_member c.loop-j.invariant.visit c.in-Some.ensures.steps)) }

pub bounds-timing-j : goal.bounds-timing-j
bounds-timing-j c = c.requires.0.few _ (visit_member c.loop-j.invariant.visit c.in-Some.ensures.steps)

pub offset_bounds-timing-j-in-loop-j : goal.offset_bounds-timing-j-in-loop-j
offset_bounds-timing-j-in-loop-j c = record { fits = omega (arith, c.requires.0.few _ (visit_member c.loop-j.invariant.visit c.in-Some.ensures.steps)) }

pub bounds-timing-j-in-loop-j : goal.bounds-timing-j-in-loop-j
bounds-timing-j-in-loop-j c = c.requires.0.few _ (visit_member c.loop-j.invariant.visit c.in-Some.ensures.steps)

pub share-sum-requires : goal.share-sum-requires
share-sum-requires c =
    let p = c.requires in
    let u = visit_member c.loop-j.invariant.visit c.in-Some.ensures.steps in
    (p.1, p.0.some_period _ u, p.0.short_period _ u, p.0.little_work _ u)

pub overflow_add-sum : goal.overflow_add-sum
overflow_add-sum c =
    let p = c.requires in
    record { fits = omega (arith, summed_fits c.loop-j.invariant c.in-Some.ensures.steps c.share-sum.ensures 24 (has_below 24 _ p.0.few), shares_bound p.0 _ p.1) }

pub loop-j-preserved : goal.loop-j-preserved
loop-j-preserved c = summed_next c.loop-j.invariant c.in-Some.ensures.steps c.share-sum.ensures

pub returns : goal.returns
returns c =
    let p = c.requires in
    let e = summed_end c.loop-j.invariant c.in-None.ensures.steps.0 24 (has_below 24 _ p.0.few) in
    (e, omega (arith, e, shares_bound p.0 _ p.1))
