-- `load_of` meets its contract. Assumes nothing.
use mathlib.Core.Path.{refl, sym, ap, ◌∙◌}
use mathlib.Core.Logic.{⊎_elim}
use Prim.Native.Nat.{◌<◌}
use native.Mathlib.Nat.{mul-le-mul, mul-le-mul_right}
use native.Mathlib.Omega.{arith}
use Rattle.mask.specs.Mask.{sum_over}
use Rattle.load.specs.declared.Load.{Load}
use Rattle.rules.specs.Sets.{load_of}
use Rattle.load.proofs.Work.{work_le}
use Rattle.finite.proofs.SumLoop.{summing_start, summing_in, summing_out, summing_end}
use Rattle.checking.proofs.load_of.Lts as lts
use Rattle.checking.proofs.load_of.Reads as reads
use Rattle.checking.proofs.load_of.Tie as tie
use Rattle.checking.proofs.load_of.Goals as goal

-- a task below 24
few : (c : lts.In-loop tie.the-claims reads.Pre reads.Post goal.the-invariant-loop-k goal.the-decreases-loop-k) → c.loop-k.k < 24
few c = omega (arith, c.requires.0.few)

pub loop-k-init : goal.loop-k-init
unfolding load_of sum_over
loop-k-init c = summing_start

pub has-requires : goal.has-requires
unfolding load_of sum_over
has-requires c = omega (arith, few c)

pub offset_bounds-tasks-k : goal.offset_bounds-tasks-k
unfolding load_of sum_over
offset_bounds-tasks-k c = record { fits = omega (arith, few c.before.before) }

pub bounds-tasks-k : goal.bounds-tasks-k
unfolding load_of sum_over
bounds-tasks-k c = few c.before.before

pub offset_bounds-tasks-k-then-has : goal.offset_bounds-tasks-k-then-has
unfolding load_of sum_over
offset_bounds-tasks-k-then-has c = record { fits = omega (arith, few c.before.before.before) }

pub bounds-tasks-k-then-has : goal.bounds-tasks-k-then-has
unfolding load_of sum_over
bounds-tasks-k-then-has c = few c.before.before.before

pub with_task-load-requires : goal.with_task-load-requires
unfolding load_of sum_over
with_task-load-requires c =
    let k = c.loop-k.k in
    let p = c.requires in
    let so_far = mul-le-mul {n₁ = k} {m₁ = c.args.h} {n₂ = 23} {m₂ = 1000000000} (omega (arith, few c.before.before.before.before)) p.1 in
    (p.0.some_period k c.loop-k-test.true, p.0.within k c.loop-k-test.true, p.0.ticks k c.loop-k-test.true, p.1, omega (arith, c.loop-k.invariant.small))

pub loop-k-preserved : goal.loop-k-preserved
unfolding load_of sum_over
loop-k-preserved c =
    ⊎_elim
    (λ w.
    let p = c.requires.0 in
    rw (ap (λ (x : Load). x.0) w.load-is ∙ w.with_task-load.ensures)
    (summing_in c.loop-k.invariant c.loop-k-test.true (sym c.has.ensures ∙ w.if-has.true) refl (work_le _ _ _ (p.within c.loop-k.k c.loop-k-test.true))))
    (λ w. rw w.load-is (summing_out c.loop-k.invariant c.loop-k-test.true (sym c.has.ensures ∙ w.if-has.false)))
    c.if-has.branch-raw

pub returns : goal.returns
unfolding load_of sum_over
returns c =
    let w = c.loop-k.invariant in
    let most = mul-le-mul_right c.args.h c.requires.0.few in
    (summing_end w c.loop-k-test.false, omega (arith, w.small, mul-le-mul_right c.args.h w.upto))
