-- What is kept stays late and needs each task that was tried.
use borrow.Author.Rules.{rules}
use native.Mathlib.Omega.{arith}
use Rattle.mask.proofs.Laws.{remove_subset}
use Rattle.mask.proofs.Visit.{visit_member}
use Rattle.schedule.proofs.Says.{says_yes, says_no}
use Rattle.schedule.proofs.TasksOfArrays.{valid_of, constrained_of, task_of, with_subset}
use Rattle.conflict.proofs.Findings.{needed_if}
use Rattle.conflict.proofs.ExtractLoop.{dropping_start, dropping_keep, dropping_drop, dropping_end}
use Rattle.conflict.proofs.extract.Goals as goal

pub loop-k-init : goal.loop-k-init
loop-k-init c = rw (c.into_iter-k-iterator.ensures.into_iter_gives, c.members-k-items.ensures) (dropping_start (search rules) c.requires.1)

pub remove-rest-requires : goal.remove-rest-requires
remove-rest-requires c = let p = c.requires.0 in omega (arith, p.few, task_of p (visit_member c.loop-k.invariant.tried c.in-Some.ensures.steps))

pub is_late-requires : goal.is_late-requires
is_late-requires c =
    with_subset c.requires.0 c.remove-rest.result
    (λ j u. c.loop-k.invariant.inside j (remove_subset c.loop-k.kept c.in-Some.k j (rw c.remove-rest.ensures at u)))

pub loop-k-preserved-then-is_late : goal.loop-k-preserved-then-is_late
loop-k-preserved-then-is_late c =
    let p = c.requires.0 in
    let b = c.is_late in
    dropping_drop c.loop-k.invariant c.in-Some.ensures.steps (valid_of p) (constrained_of p) c.remove-rest.ensures (says_yes b.result _ b.ensures c.if-is_late.true)

pub loop-k-preserved : goal.loop-k-preserved
loop-k-preserved c =
    let q = c.remove-rest in
    let b = c.is_late in
    dropping_keep c.loop-k.invariant c.in-Some.ensures.steps (needed_if c.loop-k.kept c.in-Some.k q.result q.ensures (says_no b.result _ b.ensures c.if-is_late.false))

pub returns : goal.returns
returns c = dropping_end c.loop-k.invariant c.in-None.ensures.steps.0
