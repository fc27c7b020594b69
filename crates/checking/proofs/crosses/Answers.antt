-- `crosses` meets its contract. Assumes nothing.
use Prim.Native.Nat.{◌<◌}
use native.Mathlib.Omega.{arith}
use lib.ListN.{get_or}
use Rattle.rules.proofs.Sets.{tasks_apart}
use Rattle.checking.proofs.crosses.Lts as lts
use Rattle.checking.proofs.crosses.Reads as reads
use Rattle.checking.proofs.crosses.Tie as tie
use Rattle.checking.proofs.crosses.Goals as goal

-- the message's tasks are in the table
sender : (c : lts.Start tie.the-claims reads.Pre reads.Post) → get_or c.args.t.messages.sender c.args.j 0 < 24
sender c = omega (arith, c.requires.0.messages.from_task c.args.j c.requires.1, c.requires.0.tasks.most)

receiver : (c : lts.Start tie.the-claims reads.Pre reads.Post) → get_or c.args.t.messages.receiver c.args.j 0 < 24
receiver c = omega (arith, c.requires.0.messages.to_task c.args.j c.requires.1, c.requires.0.tasks.most)

pub overflow_cast-messages : goal.overflow_cast-messages
overflow_cast-messages c = record { fits = omega (arith, sender c.before.before.before) }

pub insert-sender-requires : goal.insert-sender-requires
insert-sender-requires c = omega (arith, sender c.before.before.before)

pub overflow_cast-messages-2 : goal.overflow_cast-messages-2
overflow_cast-messages-2 c = record { fits = omega (arith, receiver c.before.before.before.before.before) }

pub insert-receiver-requires : goal.insert-receiver-requires
insert-receiver-requires c = omega (arith, receiver c.before.before.before.before.before)

pub returns : goal.returns
returns c =
    let a = c.args in
    rw (c.stand_apart.ensures, c.insert-sender.ensures, c.insert-receiver.ensures)
    (tasks_apart a.t.processors.count a.sets (get_or a.t.messages.sender a.j 0) (get_or a.t.messages.receiver a.j 0))
