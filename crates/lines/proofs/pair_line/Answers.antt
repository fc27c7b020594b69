-- `pair_line` meets its contract: two items and LF.
use native.Mathlib.Omega.{arith}
use Rattle.wire.proofs.Put.{put_then}
use Rattle.lines.proofs.pair_line.Goals as goal

pub returns : goal.returns
returns c =
    (put_then (put_then c.put_item-first.ensures.0 c.put_item-end.ensures.0) c.put.ensures, omega (arith, c.put_item-first.ensures.1, c.put_item-end.ensures.1, c.put.ensures.ends))
