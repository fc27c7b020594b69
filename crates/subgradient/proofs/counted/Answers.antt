-- The members that have come are counted.
use mathlib.Core.Path.{refl}
use native.Mathlib.Omega.{arith}
use lib.Dec.{ltb→lt}
use Rattle.mask.proofs.Visit.{visit_start, visit_member, visit_low, visit_next}
use Rattle.subgradient.proofs.Rows.{changed_start, changed_next, changed_end}
use Rattle.subgradient.proofs.Laws.{tasks_in, tasks_below, count_more}
use Rattle.subgradient.proofs.counted.Goals as goal

pub loop-k-init : goal.loop-k-init
loop-k-init c =
    let s = c.args.set in
    rw (c.into_iter-k-iterator.ensures.into_iter_gives, c.members-k-items.ensures, c.all_below.ensures)
    (changed_start c.well_formed.0.1.0.1, visit_start (omega (arith, ltb→lt (tasks_in s) 16777216 (tasks_below s))))

pub offset_bounds-counts-k : goal.offset_bounds-counts-k
offset_bounds-counts-k c = omega (arith, visit_low c.loop-k.invariant.1 c.in-Some.ensures.steps 24 (tasks_below c.args.set))

pub bounds-counts-k : goal.bounds-counts-k
bounds-counts-k c = visit_low c.loop-k.invariant.1 c.in-Some.ensures.steps 24 (tasks_below c.args.set)

pub overflow_add-next : goal.overflow_add-next
overflow_add-next c = omega (arith, c.requires.each _ (visit_low c.loop-k.invariant.1 c.in-Some.ensures.steps 24 (tasks_below c.args.set)))

pub offset_bounds-next-k : goal.offset_bounds-next-k
offset_bounds-next-k c = omega (arith, visit_low c.loop-k.invariant.1 c.in-Some.ensures.steps 24 (tasks_below c.args.set))

pub bounds-next-k : goal.bounds-next-k
bounds-next-k c = visit_low c.loop-k.invariant.1 c.in-Some.ensures.steps 24 (tasks_below c.args.set)

pub loop-k-preserved : goal.loop-k-preserved
loop-k-preserved c =
    let i = c.loop-k.invariant in
    let s = c.in-Some.ensures.steps in
    (changed_next i.0 (visit_low i.1 s 24 (tasks_below c.args.set)) refl (visit_member i.1 s) s.2, visit_next i.1 s tt)

pub returns : goal.returns
returns c = let s = c.args in changed_end c.loop-k.invariant.0 c.in-None.ensures.steps.0 _ (count_more s.counts s.set)
