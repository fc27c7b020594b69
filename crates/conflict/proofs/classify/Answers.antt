-- The tasks tried are needed: the set is in time without each.
use borrow.Author.Rules.{rules}
use native.Mathlib.Omega.{arith}
use Rattle.mask.specs.Mask.{has}
use Rattle.mask.proofs.Laws.{remove_subset}
use Rattle.mask.proofs.Visit.{visit_start, visit_member, visit_next, visit_end}
use Rattle.schedule.specs.Periodic.{LateSet}
use Rattle.schedule.specs.Arrays.{tasks_of}
use Rattle.schedule.proofs.Says.{says_yes, says_no}
use Rattle.schedule.proofs.TasksOfArrays.{task_of, with_subset}
use Rattle.conflict.specs.declared.Finding.TheVariants.{NoConflict, NotMinimal, MinimalConflict}
use Rattle.conflict.proofs.Findings.{checked_of, needed_if, not_minimal}
use Rattle.conflict.proofs.classify.Goals as goal
use Rattle.conflict.proofs.classify.Goals.{After-members-k-items}

-- the set is late
late : (c : After-members-k-items) → let z = c.args in LateSet (tasks_of z.n z.timing.now) (has z.set)
late c = let b = c.is_late in says_yes b.result _ b.ensures c.if-not-is_late.false

pub returns-then-not-is_late : goal.returns-then-not-is_late
returns-then-not-is_late c = let b = c.is_late in checked_of c.requires NoConflict (says_no b.result _ b.ensures c.if-not-is_late.true)

pub loop-k-init : goal.loop-k-init
loop-k-init c = rw (c.into_iter-k-iterator.ensures.into_iter_gives, c.members-k-items.ensures) (visit_start (search rules))

pub remove-rest-requires : goal.remove-rest-requires
remove-rest-requires c = let p = c.requires in omega (arith, p.few, task_of p (visit_member c.loop-k.invariant c.in-Some.ensures.steps))

pub is_late-requires-in-loop-k : goal.is_late-requires-in-loop-k
is_late-requires-in-loop-k c =
    with_subset c.requires c.remove-rest.result (λ j u. remove_subset c.args.set c.in-Some.k j (rw c.remove-rest.ensures at u))

pub returns-then-is_late : goal.returns-then-is_late
returns-then-is_late c =
    let b = c.is_late-in-loop-k in
    checked_of c.requires NotMinimal (
      late (goal.at.returns-then-is_late c).After-members-k-items,
      not_minimal c.in-Some.k (visit_member c.loop-k.invariant c.in-Some.ensures.steps) c.remove-rest.ensures (says_yes b.result _ b.ensures c.if-is_late.true),
    )

pub loop-k-preserved : goal.loop-k-preserved
loop-k-preserved c =
    let q = c.remove-rest in
    let b = c.is_late-in-loop-k in
    visit_next c.loop-k.invariant c.in-Some.ensures.steps
    (needed_if c.args.set c.in-Some.k q.result q.ensures (says_no b.result _ b.ensures c.if-is_late.false))

pub returns : goal.returns
returns c =
    checked_of c.requires MinimalConflict
    (record { late = late (goal.at.returns c).After-members-k-items; needed = λ k u. visit_end c.loop-k.invariant c.in-None.ensures.steps.0 k u u })
