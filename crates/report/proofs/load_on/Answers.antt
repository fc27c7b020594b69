-- `load_on` meets its contract: the load of the first k tasks that stand on p.
use mathlib.Core.Path.{refl, sym, ap, ◌∙◌}
use mathlib.Core.Logic.{⊎_elim}
use Prim.Native.Nat.{◌<◌}
use native.Mathlib.Omega.{arith}
use borrow.Author.Tests.{lt-ltb, eq-eqb, ne_eqb}
use lib.ListN.{get_or}
use Rattle.table.proofs.Times.{work_in_period, some_period}
use Rattle.load.specs.declared.Load.{Load}
use Rattle.rules.specs.Rules.{load_on}
use Rattle.load.proofs.Work.{work_le}
use Rattle.finite.proofs.SumLoop.{summing_start, summing_in, summing_out, summing_end}
use Rattle.report.proofs.load_on.Goals as goal

pub loop-k-init : goal.loop-k-init
unfolding load_on
loop-k-init c = summing_start

pub offset_bounds-tasks-k : goal.offset_bounds-tasks-k
unfolding load_on
offset_bounds-tasks-k c = record { fits = omega (arith, c.requires.0.tasks.most) }

pub bounds-tasks-k : goal.bounds-tasks-k
unfolding load_on
bounds-tasks-k c = omega (arith, c.requires.0.tasks.most)

pub offset_bounds-tasks-k-then-from-p : goal.offset_bounds-tasks-k-then-from-p
unfolding load_on
offset_bounds-tasks-k-then-from-p c = record { fits = omega (arith, c.requires.0.tasks.most) }

pub bounds-tasks-k-then-from-p : goal.bounds-tasks-k-then-from-p
unfolding load_on
bounds-tasks-k-then-from-p c = omega (arith, c.requires.0.tasks.most)

pub with_task-load-requires : goal.with_task-load-requires
unfolding load_on
with_task-load-requires c =
    let k = c.loop-k.k in
    let h = c.requires.0 in
    let l : k < c.args.table.tasks.count = omega (arith, c.requires.1) in
    (some_period h k l, work_in_period h k l, h.tasks.ticks k l, h.hyperperiod_most, omega (arith, c.loop-k.invariant.small, h.tasks.most))

pub loop-k-preserved : goal.loop-k-preserved
unfolding load_on
loop-k-preserved c =
    let h = c.requires.0 in
    let t = c.args.table in
    let k = c.loop-k.k in
    let l : k < t.tasks.count = omega (arith, c.requires.1) in
    ⊎_elim
    (λ w.
    rw (ap (λ (x : Load). x.0) w.load-is ∙ w.with_task-load.ensures)
    (summing_in c.loop-k.invariant l (rw (lt-ltb _ _ c.loop-k-test.true, eq-eqb _ _ (sym c.from.ensures ∙ w.if-from-p.true)) refl) refl
    (omega (arith, work_le (get_or t.tasks.c k 0) (get_or t.tasks.t k 0) t.hyperperiod (work_in_period h k l), h.hyperperiod_most))))
    (λ w. rw w.load-is (summing_out c.loop-k.invariant l (rw (lt-ltb _ _ c.loop-k-test.true, ne_eqb _ _ (λ e. w.if-from-p.false (c.from.ensures ∙ e))) refl)))
    c.if-from-p.branch-raw

pub returns : goal.returns
unfolding load_on
returns c =
    let w = c.loop-k.invariant in
    (summing_end w (omega (arith, c.loop-k-test.false, c.requires.1)), omega (arith, w.small, w.upto, c.requires.0.tasks.most))
