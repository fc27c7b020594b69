-- `gcd` meets its contract: whatever is the greatest common divisor of the pair in hand is that of a and b. Assumes nothing.
use native.Mathlib.Nat.{mod-lt}
use native.Mathlib.Omega.{arith}
use Rattle.lcm.proofs.Euclid.{gcd_step, gcd_zero}
use Rattle.lcm.proofs.gcd.Goals as goal

pub loop-y-init : goal.loop-y-init
loop-y-init c = λ g h. h

pub loop-y-smaller : goal.loop-y-smaller
loop-y-smaller c = mod-lt c.loop-y.x (omega arith)

pub loop-y-preserved : goal.loop-y-preserved
loop-y-preserved c = λ g h. c.loop-y.invariant g (gcd_step c.loop-y.x c.loop-y.y h)

pub returns : goal.returns
returns c =
    let x = c.loop-y.x in
    c.loop-y.invariant x (rw c.loop-y-test.false (gcd_zero x))
