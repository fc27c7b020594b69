-- `put_signed` meets its contract: the sign and the size behind it, or the number as it is.
use native.Mathlib.Omega.{arith}
use Rattle.wire.proofs.Put.{put_then}
use Rattle.text.proofs.Signed.{read_fits, wide_minus_fits, minus_below_fits, minus_below_written, read_above_fits, read_above_written}
use Rattle.text.proofs.put_signed.Goals as goal

pub overflow_cast-x : goal.overflow_cast-x
overflow_cast-x c = read_fits c.args.x c.ranges.x

pub overflow_sub-x : goal.overflow_sub-x
overflow_sub-x c = wide_minus_fits c.args.x c.ranges.x (omega arith)

pub overflow_cast-x-then-x-lt0 : goal.overflow_cast-x-then-x-lt0
overflow_cast-x-then-x-lt0 c =
    minus_below_fits c.args.x c.ranges.x (omega arith) c.if-x-lt0.true

pub returns-then-x-lt0 : goal.returns-then-x-lt0
returns-then-x-lt0 c =
    rw (← (minus_below_written c.args.x c.ranges.x c.if-x-lt0.true)) (put_then c.put-end.ensures c.put_decimal.ensures)

pub overflow_cast-x-2 : goal.overflow_cast-x-2
overflow_cast-x-2 c = read_above_fits c.args.x c.ranges.x c.if-x-lt0.false

pub returns : goal.returns
returns c = rw (← (read_above_written c.args.x c.ranges.x c.if-x-lt0.false)) c.put_decimal-2.ensures
