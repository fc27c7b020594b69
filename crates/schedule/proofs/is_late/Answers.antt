-- The members that have come have a response; one without makes the set late.
use borrow.Author.Rules.{rules}
use native.Mathlib.Omega.{arith}
use Rattle.mask.proofs.Visit.{visit_start, visit_member, visit_next, visit_end}
use Rattle.schedule.proofs.TasksOfArrays.{task_of, late_if, not_late_if}
use Rattle.schedule.proofs.is_late.Goals as goal

pub loop-i-init : goal.loop-i-init
loop-i-init c = rw (c.into_iter-i-iterator.ensures.into_iter_gives, c.members-i-items.ensures) (visit_start (search rules))

pub response-requires : goal.response-requires
response-requires c = let p = c.requires in (p, task_of p (visit_member c.loop-i.invariant c.in-Some.ensures.steps))

pub returns-then-response-eq0 : goal.returns-then-response-eq0
returns-then-response-eq0 c =
    late_if c.requires c.in-Some.i (visit_member c.loop-i.invariant c.in-Some.ensures.steps) c.response.ensures c.if-response-eq0.true

pub loop-i-preserved : goal.loop-i-preserved
loop-i-preserved c = visit_next c.loop-i.invariant c.in-Some.ensures.steps (omega (arith, c.response.ensures, c.if-response-eq0.false))

pub returns : goal.returns
returns c = not_late_if c.requires (visit_end c.loop-i.invariant c.in-None.ensures.steps.0)
