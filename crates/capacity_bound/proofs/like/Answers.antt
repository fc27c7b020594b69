-- `like` meets its contract. Assumes nothing.
use native.Mathlib.Omega.{arith}
use Rattle.capacity_bound.proofs.like.Goals as goal

pub returns-then-covers : goal.returns-then-covers
returns-then-covers c = (omega arith, λ l. c.covers.ensures (rw c.if-covers.true tt))

pub returns : goal.returns
returns c = (omega arith, λ l. absurd (omega arith))
