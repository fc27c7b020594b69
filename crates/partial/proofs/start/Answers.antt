-- `start` meets its contract. Assumes nothing.
use mathlib.Core.Path.{◌≡◌, refl, ap}
use Prim.Native.Nat.{ℕ, ◌*◌, ◌/◌, ◌≤◌}
use native.Mathlib.Nat.{mul-le-mul}
use native.Mathlib.Omega.{arith}
use borrow.Author.Rules.{rules}
use Rattle.partial.specs.Start.{start_of}
use Rattle.table.proofs.FilledUp.{column_start, column_next}
use Rattle.partial.proofs.start.Goals as goal

-- 01: H is at most 1,000,000,000
product : (x h most : ℕ) → x ≤ most → h ≤ 1000000000 → x * h ≤ most * 1000000000
product x h most l k = mul-le-mul l k

pub loop-p-init : goal.loop-p-init
unfolding start_of
loop-p-init c = (omega arith, column_start 8 _, column_start 8 _)

pub wide-requires : goal.wide-requires
unfolding start_of
wide-requires c = search rules

pub overflow_mul-load : goal.overflow_mul-load
unfolding start_of
overflow_mul-load c =
    let sound = c.requires in
    record { fits = omega (arith, product c.wide-in-loop-p.result _ 1000 (rw c.wide-in-loop-p.ensures.0 (sound.processors.most_limit _ c.loop-p-test.true)) sound.hyperperiod_most) }

pub loop-p-preserved : goal.loop-p-preserved
unfolding start_of
loop-p-preserved c =
    let inv = c.loop-p.invariant in
    let most = c.requires.processors.most in (
      omega arith,
      column_next _ inv.1 (omega arith) c.wide.ensures.0,
      column_next _ inv.2 (omega arith) (ap (λ (x : ℕ). x * c.args.t.hyperperiod / 1000) c.wide-in-loop-p.ensures.0),
    )

pub all_below-all-requires : goal.all_below-all-requires
unfolding start_of
all_below-all-requires c = search rules

pub overflow_mul-result : goal.overflow_mul-result
unfolding start_of
overflow_mul-result c = record { fits = omega (arith, product c.wide-2.result _ 4294967296 (omega (arith, c.wide-2.ensures)) c.requires.hyperperiod_most) }

pub returns : goal.returns
unfolding start_of
returns c =
    let inv = c.loop-p.invariant in
    let all : c.loop-p.p ≡ c.args.t.processors.count = omega arith in
    rw (c.all_below-all.ensures, inv.1, inv.2, all, c.wide-2.ensures.0) refl
