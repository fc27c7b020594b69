-- `put_member` meets its contract: a task is below 32, so that it has two digits at most.
use native.Mathlib.Omega.{arith}
use Rattle.wire.proofs.Put.{put_nothing}
use Rattle.text.proofs.Laws.{decimal_two}
use Rattle.lines.proofs.Laws.{member_is}
use Rattle.lines.proofs.put_member.Goals as goal

pub returns-then-has : goal.returns-then-has
returns-then-has c =
    let a = c.args in
    (rw (member_is a.mask a.k c.has.ensures c.if-has.true) c.put_item.ensures.0, omega (arith, c.put_item.ensures.0.ends, decimal_two a.k (omega arith)))

pub returns : goal.returns
returns c =
    let a = c.args in
    (rw (member_is a.mask a.k c.has.ensures c.if-has.false) (put_nothing a.text.now a.at (omega arith)), omega arith)
