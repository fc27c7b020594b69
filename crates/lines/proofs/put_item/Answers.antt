-- `put_item` meets its contract.
use native.Mathlib.Omega.{arith}
use Rattle.wire.proofs.Put.{put_then}
use Rattle.text.proofs.Laws.{put_few}
use Rattle.lines.proofs.put_item.Goals as goal

pub returns : goal.returns
returns c =
    (put_then c.put-end.ensures c.put_decimal.ensures, omega (arith, c.put-end.ensures.ends, put_few _ _ c.put_decimal.ensures))
