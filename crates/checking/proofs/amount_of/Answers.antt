-- `amount_of` meets its contract. Assumes nothing.
use mathlib.Core.Path.{refl}
use Prim.Native.Nat.{◌<◌}
use native.Mathlib.Omega.{arith}
use lib.ListN.{get_or}
use Rattle.table.proofs.Times.{some_period}
use Rattle.rules.proofs.Bounds.{amount_bound}
use Rattle.checking.proofs.amount_of.Lts as lts
use Rattle.checking.proofs.amount_of.Reads as reads
use Rattle.checking.proofs.amount_of.Tie as tie
use Rattle.checking.proofs.amount_of.Goals as goal

-- the message's sender is in the table
sender : (c : lts.Start tie.the-claims reads.Pre reads.Post) → get_or c.args.t.messages.sender c.args.j 0 < 24
sender c = omega (arith, c.requires.0.messages.from_task c.args.j c.requires.1, c.requires.0.tasks.most)

pub overflow_cast-sender : goal.overflow_cast-sender
overflow_cast-sender c = record { fits = omega (arith, sender c.before.before.before) }

pub overflow_mul-result : goal.overflow_mul-result
overflow_mul-result c = record { fits = rw c.wide.ensures.0 (omega (arith, amount_bound c.args.t c.requires.0 c.args.j c.requires.1)) }

pub offset_bounds-tasks-sender : goal.offset_bounds-tasks-sender
offset_bounds-tasks-sender c = record { fits = omega (arith, sender c.before.before.before.before.before.before) }

pub bounds-tasks-sender : goal.bounds-tasks-sender
bounds-tasks-sender c = sender c.before.before.before.before.before.before

pub nonzero_div-result : goal.nonzero_div-result
nonzero_div-result c =
    omega (arith, c.wide-2.ensures, some_period c.requires.0 _ (c.requires.0.messages.from_task c.args.j c.requires.1))

pub returns : goal.returns
returns c =
    rw (c.wide.ensures.0, c.wide-2.ensures.0) (refl, (amount_bound c.args.t c.requires.0 c.args.j c.requires.1).1)
