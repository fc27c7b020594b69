-- `put_digits` meets its contract: the last digit stands behind those of a tenth of the number.
use Prim.Native.Nat.{ℕ, ◌+◌, ◌%◌, ◌<◌}
use native.Mathlib.Omega.{arith}
use lib.ListN.{length}
use Rattle.wire.proofs.Put.{put_nothing, put_then, put_byte, put_length}
use Rattle.text.proofs.Laws.{digits_none, digits_one, digits_more, put_few}
use Rattle.text.proofs.+put_digits.Goals as goal

-- the last digit's place: the digits before it are at most `most - 1`
last : {t : ℕ} (c : goal.After-slice_known-2-1 t) → c.put_digits-last.result < length c.put_digits-last.new.text
last {t} c = omega (arith, put_few _ _ c.put_digits-last.ensures, put_length c.put_digits-last.ensures)

pub returns-then-most-eq0 : goal.returns-then-most-eq0
returns-then-most-eq0 t c = let a = c.args in rw (digits_none a.most a.x (omega arith)) (put_nothing a.text.now a.at (omega arith))

pub returns-then-x-lt10 : goal.returns-then-x-lt10
returns-then-x-lt10 t c = let a = c.args in rw (digits_one a.most a.x (omega arith) (omega arith)) (put_byte a.text.now a.at (48 + a.x) (omega arith))

pub bounds-text-last : goal.bounds-text-last
bounds-text-last t c = last c

pub overflow_add-result-2 : goal.overflow_add-result-2
overflow_add-result-2 t c = omega (arith, last c)

pub returns : goal.returns
returns t c =
    let v = c.put_digits-last in
    let a = c.args in
    rw (digits_more a.most a.x (omega arith) (omega arith))
    (put_then v.ensures (put_byte v.new.text v.result (48 + a.x % 10) (last c)))
