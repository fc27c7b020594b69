-- `amount_at` meets its contract. Assumes nothing.
use Prim.Native.Nat.{◌≤◌, ◌<◌}
use native.Mathlib.Omega.{arith}
use borrow.Author.Tests.{lt-ltb, le-ltb}
use lib.ListN.{get_or}
use Rattle.table.proofs.Times.{some_period, some_deadline}
use Rattle.rules.proofs.Bounds.{amount_bound}
use Rattle.rows.proofs.amount_at.Lts as lts
use Rattle.rows.proofs.amount_at.Reads as reads
use Rattle.rows.proofs.amount_at.Tie as tie
use Rattle.rows.proofs.amount_at.Goals as goal

-- the message's sender is in the table, and neither its period nor its deadline is 0: so a division by the deadline is refused for its answer
sender : (c : lts.Else1 tie.the-claims reads.Pre reads.Post) → let a = c.args in let i = get_or a.t.messages.sender a.j 0 in (i < 24) × (1 ≤ get_or a.t.tasks.t i 0) × (1 ≤ get_or a.t.tasks.d i 0)
sender c =
    let s = c.requires in
    let i = get_or c.args.t.messages.sender c.args.j 0 in
    let l = s.messages.from_task c.args.j c.if-messages-j.false in
    (omega (arith, s.tasks.most), some_period s i l, some_deadline s i l)

pub returns-then-messages-j : goal.returns-then-messages-j
returns-then-messages-j c = rw (le-ltb _ _ c.if-messages-j.true)

pub overflow_cast-sender : goal.overflow_cast-sender
overflow_cast-sender c = record { fits = omega (arith, sender c.before.before) }

pub overflow_mul-result : goal.overflow_mul-result
overflow_mul-result c =
    record { fits = rw c.wide.ensures.0 (omega (arith, amount_bound c.args.t c.requires c.args.j c.if-messages-j.false)) }

pub offset_bounds-tasks-sender : goal.offset_bounds-tasks-sender
offset_bounds-tasks-sender c = record { fits = omega (arith, sender c.before.before.before.before.before) }

pub bounds-tasks-sender : goal.bounds-tasks-sender
bounds-tasks-sender c = (sender c.before.before.before.before.before).0

pub nonzero_div-result : goal.nonzero_div-result
nonzero_div-result c = omega (arith, c.wide-2.ensures.0, sender c.before.before.before.before.before.before.before)

pub returns : goal.returns
returns c = rw (lt-ltb _ _ c.if-messages-j.false, c.wide.ensures.0, c.wide-2.ensures.0)
