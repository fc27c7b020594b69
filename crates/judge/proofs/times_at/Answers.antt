-- `times_at` meets its contract. Assumes nothing.
use Prim.Native.Nat.{ℕ, ◌<◌}
use native.Mathlib.Omega.{arith}
use mathlib.Core.List.{List}
use mathlib.Core.Path.{◌∙◌}
use borrow.Author.Tests.{lt-ltb, le-ltb}
use lib.ListN.{get_or}
use Rattle.schedule.specs.declared.Timing.{Timing}
use Rattle.schedule.proofs.TasksOfArrays.{deadline_bound}
use Rattle.judge.specs.Arrays.{Placed}
use Rattle.judge.proofs.Limits.{times_placed}
use Rattle.judge.proofs.times_at.Goals as goal

-- the byte names a processor
known : {n : ℕ} {timing : Timing} {q sets : List ℕ} → Placed n timing q sets → {k : ℕ} → k < n → get_or q k 0 < 8
known w l = w.placeable.known _ (omega (arith, w.long))

pub returns-then-n-k : goal.returns-then-n-k
returns-then-n-k c = rw (le-ltb _ _ c.if-n-k.true)

pub offset_bounds-sets-p : goal.offset_bounds-sets-p
offset_bounds-sets-p c = record { fits = omega (arith, c.from-p.ensures, known c.requires c.if-n-k.false) }

pub bounds-sets-p : goal.bounds-sets-p
bounds-sets-p c = omega (arith, c.from-p.ensures, known c.requires c.if-n-k.false)

pub worst_response-worst-requires : goal.worst_response-worst-requires
worst_response-worst-requires c = (c.requires.limits _, c.if-n-k.false)

pub margin_by-requires : goal.margin_by-requires
margin_by-requires c = (deadline_bound (c.requires.limits 0) _ c.if-n-k.false, c.worst_response-worst.ensures.1)

pub returns : goal.returns
returns c =
    let both = times_placed c.requires c.args.k (rw c.from-p.ensures at c.worst_response-worst.ensures.0) in
    rw (lt-ltb _ _ c.if-n-k.false, c.margin_by.ensures ∙ both.1, c.response_by.ensures ∙ both.0)
