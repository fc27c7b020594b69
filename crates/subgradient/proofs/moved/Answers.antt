-- The members that have come have moved.
use mathlib.Core.Path.{refl}
use native.Mathlib.Omega.{arith}
use borrow.Author.Rules.{rules}
use Rattle.mask.proofs.Visit.{visit_start, visit_member, visit_low, visit_next}
use Rattle.subgradient.proofs.Rows.{changed_start, changed_next, changed_end}
use Rattle.subgradient.proofs.moved.Goals as goal

pub loop-k-init : goal.loop-k-init
loop-k-init c = rw (c.into_iter-k-iterator.ensures.into_iter_gives, c.members-k-items.ensures) (visit_start (search rules), changed_start c.well_formed.0.1.0.1)

pub offset_bounds-weights-k : goal.offset_bounds-weights-k
offset_bounds-weights-k c = omega (arith, visit_low c.loop-k.invariant.0 c.in-Some.ensures.steps 24 c.requires.0)

pub bounds-weights-k : goal.bounds-weights-k
bounds-weights-k c = visit_low c.loop-k.invariant.0 c.in-Some.ensures.steps 24 c.requires.0

pub offset_bounds-direction-k : goal.offset_bounds-direction-k
offset_bounds-direction-k c = omega (arith, visit_low c.loop-k.invariant.0 c.in-Some.ensures.steps 24 c.requires.0)

pub bounds-direction-k : goal.bounds-direction-k
bounds-direction-k c = visit_low c.loop-k.invariant.0 c.in-Some.ensures.steps 24 c.requires.0

pub moved_weight-requires : goal.moved_weight-requires
moved_weight-requires c = let z = c.requires in (z.1.each _ (visit_low c.loop-k.invariant.0 c.in-Some.ensures.steps 24 c.requires.0), z.2, z.3)

pub offset_bounds-next-k : goal.offset_bounds-next-k
offset_bounds-next-k c = omega (arith, visit_low c.loop-k.invariant.0 c.in-Some.ensures.steps 24 c.requires.0)

pub bounds-next-k : goal.bounds-next-k
bounds-next-k c = visit_low c.loop-k.invariant.0 c.in-Some.ensures.steps 24 c.requires.0

pub loop-k-preserved : goal.loop-k-preserved
loop-k-preserved c =
    let i = c.loop-k.invariant in
    let s = c.in-Some.ensures.steps in
    (visit_next i.0 s tt, changed_next i.1 (visit_low i.0 s 24 c.requires.0) c.moved_weight.ensures (visit_member i.0 s) s.2)

pub returns : goal.returns
returns c = changed_end c.loop-k.invariant.1 c.in-None.ensures.steps.0 _ (λ k l. refl)
