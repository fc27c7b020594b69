-- `neither` meets its contract. Assumes nothing.
use native.Mathlib.Omega.{arith}
use lib.Bits.{or_lt}
use Rattle.partial.proofs.MaskSets.{neither_mask}
use Rattle.partial.proofs.neither.Goals as goal

pub returns : goal.returns
returns c =
    let a = c.args in
    neither_mask a.n c.all_below.result a.a a.b (omega arith) c.all_below.ensures (or_lt 32 a.a a.b (omega arith) (omega arith))
