-- `gcd` meets its contract: whatever is the greatest common divisor of the pair in hand is that of a and b. Assumes nothing.
use Prim.Native.Nat.{ℕ}
use Rattle.lcm.specs.Lcm.{Gcd}
use Rattle.lcm.proofs.gcd.Given as goal

abbrev pub invariant-loop-y : goal.invariant-loop-y
invariant-loop-y l = (g : ℕ) → Gcd l.x l.y g → Gcd l.a l.b g

abbrev pub decreases-loop-y : goal.decreases-loop-y
decreases-loop-y l = l.y
