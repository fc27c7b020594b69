-- The tasks are looked at in rising order: what is left of them, with the best so far, gives the answer.
use mathlib.Core.Path.{◌≡◌, refl}
use mathlib.Core.List.{◌∷◌}
use native.Mathlib.Omega.{arith}
use borrow.Author.Rules.{rules}
use Rattle.mask.proofs.Visit.{visit_start, visit_low, visit_next}
use Rattle.branching.specs.Branching.{members_from, pick_from, pick_of}
use Rattle.branching.proofs.Members.{members_none, members_next}
use Rattle.branching.proofs.Picking.{pick_none, pick_better, pick_worse, pick_end}
use Rattle.branching.proofs.pick.Goals as goal
use Rattle.branching.proofs.pick.Goals.{In-Some}

-- the task that is looked at is the first of those that are left
first : (c : In-Some) → let a = c.args in
    pick_from a.base.now a.may.now a.processors (c.in-Some.k ∷ members_from 32 0 c.next.new.self.left) c.loop-k.best c.loop-k.least c.loop-k.heuristics
    ≡ pick_of a.base.now a.processors a.left a.may.now a.heuristics.now
first c =
    let i = c.loop-k.invariant in
    let s = c.in-Some.ensures.steps in
    rw (s.2, s.1, ← members_next {x = c.loop-k.k-iterator.left} s.0 i.0.fits) i.1

pub loop-k-init : goal.loop-k-init
loop-k-init c = rw (c.into_iter-k-iterator.ensures.into_iter_gives, c.members-k-items.ensures) (visit_start (search rules), rw c.lowest-best.ensures refl)

pub choices-found-requires : goal.choices-found-requires
choices-found-requires c = (search rules, visit_low c.loop-k.invariant.0 c.in-Some.ensures.steps 24 c.requires.1)

pub blame-requires : goal.blame-requires
blame-requires c = visit_low c.loop-k.invariant.0 c.in-Some.ensures.steps 24 c.requires.1

pub returns-then-found-eq0 : goal.returns-then-found-eq0
returns-then-found-eq0 c =
    let a = c.args in
    let l = c.loop-k in
    pick_none a.base.now a.may.now a.processors c.in-Some.k l.best l.least _ l.heuristics (first (goal.at.returns-then-found-eq0 c).In-Some) c.choices-found.ensures.0 c.if-found-eq0.true c.blame.ensures

pub offset_bounds-base-k : goal.offset_bounds-base-k
offset_bounds-base-k c = record { fits = omega (arith, visit_low c.loop-k.invariant.0 c.in-Some.ensures.steps 24 c.requires.1) }

pub bounds-base-k : goal.bounds-base-k
bounds-base-k c = visit_low c.loop-k.invariant.0 c.in-Some.ensures.steps 24 c.requires.1

pub score-value-requires : goal.score-value-requires
score-value-requires c = (c.choices-found.ensures.1, visit_low c.loop-k.invariant.0 c.in-Some.ensures.steps 24 c.requires.1)

pub loop-k-preserved-then-value-least : goal.loop-k-preserved-then-value-least
loop-k-preserved-then-value-least c =
    let a = c.args in
    let l = c.loop-k in
    let v = c.score-value.ensures in (
      visit_next l.invariant.0 c.in-Some.ensures.steps tt,
      pick_better a.base.now a.may.now a.processors c.in-Some.k l.best l.least _ l.heuristics (first (goal.at.loop-k-preserved-then-value-least c).In-Some)
          c.choices-found.ensures.0 c.if-found-eq0.false v.0 v.1 c.if-value-least.true,
    )

pub loop-k-preserved : goal.loop-k-preserved
loop-k-preserved c =
    let a = c.args in
    let l = c.loop-k in
    let v = c.score-value.ensures in (
      visit_next l.invariant.0 c.in-Some.ensures.steps tt,
      pick_worse a.base.now a.may.now a.processors c.in-Some.k l.best l.least _ l.heuristics (first (goal.at.loop-k-preserved c).In-Some)
          c.choices-found.ensures.0 c.if-found-eq0.false v.0 v.1 c.if-value-least.false,
    )

pub returns : goal.returns
returns c =
    let a = c.args in
    let l = c.loop-k in
    pick_end a.base.now a.may.now a.processors l.best l.least l.heuristics (rw (c.in-None.ensures.steps.0, members_none 32 0) at l.invariant.1)
