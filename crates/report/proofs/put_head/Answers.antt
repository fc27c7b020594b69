-- `put_head` meets its contract: `none` alone, or `found` and the lines of the placement behind it.
use native.Mathlib.Omega.{arith}
use Rattle.wire.proofs.Put.{put_then}
use Rattle.report.proofs.put_head.Goals as goal

pub returns-then-not-found : goal.returns-then-not-found
returns-then-not-found c =
    (rw c.if-not-found.true c.put.ensures, omega (arith, c.put.ensures.ends))

pub put_placement-requires : goal.put_placement-requires
put_placement-requires c =
    (omega (arith, c.put-end.ensures.ends, c.put-end.auto.text, c.requires.0), c.requires.1, c.requires.2)

pub returns : goal.returns
returns c =
    (rw c.if-not-found.false (put_then c.put-end.ensures c.put_placement.ensures.0), omega (arith, c.put-end.ensures.ends, c.put_placement.ensures.1))
