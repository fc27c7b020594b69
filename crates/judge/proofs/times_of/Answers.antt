-- `times_of` meets its contract. Assumes nothing.
use mathlib.Core.Path.{ap, ap₂}
use mathlib.Core.List.{List}
use Prim.Native.Nat.{ℕ}
use native.Mathlib.Omega.{arith}
use lib.IntN.{ℤ}
use Rattle.std.specs.Prelude.{Option}
use Rattle.finite.proofs.Filling.{filled_start, filled_next, filled_end}
use Rattle.table.proofs.Filling as filling
use Rattle.judge.specs.declared.TaskTimes.{TaskTimes}
use Rattle.judge.specs.Judge.{responses_of, margins_of}
use Rattle.judge.proofs.Limits.{placed_of}
use Rattle.judge.proofs.times_of.Goals as goal

pub loop-k-init : goal.loop-k-init
unfolding responses_of margins_of
loop-k-init c = (filling.fill_start _ _ _, filled_start _)

pub times_at-times-requires : goal.times_at-times-requires
unfolding responses_of margins_of
times_at-times-requires c = placed_of c.requires.0 c.requires.1 c.timing_of-timing.ensures c.requires.2

pub loop-k-preserved : goal.loop-k-preserved
unfolding responses_of margins_of
loop-k-preserved c =
    let e = c.times_at-times.ensures in
    (filling.fill_put c.loop-k.invariant.0 (omega arith) (ap (λ (x : TaskTimes). x.response) e), filled_next _ c.loop-k.invariant.1 (omega arith) (ap (λ (x : TaskTimes). x.margin) e))

pub returns : goal.returns
unfolding responses_of margins_of
returns c =
    let e = c.timing_of-timing.ensures in
    ap₂ (λ (r : List ℕ) (m : List (Option ℤ)). record { responses = r; margins = m })
    (rw e at (filling.fill_end c.loop-k.invariant.0 c.loop-k-test.false))
    (rw e at (filled_end _ c.loop-k.invariant.1 c.loop-k-test.false))
