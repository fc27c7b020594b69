-- Processor by processor: what is left, and what the tasks on it took.
use mathlib.Core.Path.{◌≡◌, refl, ap}
use Prim.Native.Nat.{ℕ, ◌+◌}
use native.Mathlib.Omega.{arith}
use borrow.Author.Rules.{rules}
use lib.ListN.{get_or}
use Rattle.table.proofs.FilledUp.{column_start, column_next}
use Rattle.late_listing.specs.LateListing.{emptied_of}
use Rattle.late_listing.proofs.Emptying.{few_on, small_memory, small_load}
use Rattle.late_listing.proofs.emptied.Goals as goal

pub loop-p-init : goal.loop-p-init
unfolding emptied_of
loop-p-init c = (omega arith, column_start 8 _, column_start 8 _)

pub total-requires : goal.total-requires
unfolding emptied_of
total-requires c =
    let z = c.requires in
    few_on z.2 z.3 c.loop-p.p

pub overflow_add-memory : goal.overflow_add-memory
unfolding emptied_of
overflow_add-memory c =
    let z = c.requires in
    omega (arith, c.total.ensures.1, small_memory z.2 z.3 c.loop-p.p c.loop-p-test.true)

pub total-requires-in-loop-p : goal.total-requires-in-loop-p
unfolding emptied_of
total-requires-in-loop-p c =
    let z = c.requires in
    few_on z.2 z.3 c.loop-p.p

pub overflow_add-load : goal.overflow_add-load
unfolding emptied_of
overflow_add-load c =
    let z = c.requires in
    omega (arith, c.total-in-loop-p.ensures.1, small_load z.2 z.3 c.loop-p.p c.loop-p-test.true)

pub loop-p-preserved : goal.loop-p-preserved
unfolding emptied_of
loop-p-preserved c =
    let z = c.requires in
    let a = c.args in
    let p = c.loop-p.p in (
      omega arith,
      column_next _ c.loop-p.invariant.1 (omega (arith, c.loop-p-test.true, z.2.processors, z.2.sound.processors.most)) (ap (λ (y : ℕ). get_or a.s.memory p 0 + y) c.total.ensures.0),
      column_next _ c.loop-p.invariant.2 (omega (arith, c.loop-p-test.true, z.2.processors, z.2.sound.processors.most)) (ap (λ (y : ℕ). get_or a.s.load p 0 + y) c.total-in-loop-p.ensures.0),
    )

pub all_below-requires : goal.all_below-requires
unfolding emptied_of
all_below-requires c = search rules

pub returns : goal.returns
unfolding emptied_of
returns c =
    let all : c.loop-p.p ≡ c.args.instance.now.sizes.processors = omega (arith, c.loop-p.invariant.0, c.loop-p-test.false) in
    rw (c.all_below.ensures, c.loop-p.invariant.1, c.loop-p.invariant.2, all) refl
