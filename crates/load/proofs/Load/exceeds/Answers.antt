-- `Load::exceeds` meets its contract. Assumes nothing.
use native.Mathlib.Nat.{mul-le-mul}
use native.Mathlib.Omega.{arith}
use Rattle.load.proofs.Load.exceeds.Goals as goal

pub overflow_mul-result : goal.overflow_mul-result
overflow_mul-result c = omega (arith, mul-le-mul {n₁ = c.args.limit} {m₁ = c.full-full.result.0} {n₂ = 1000} {m₂ = 1000000000} (omega arith) (omega arith))

pub overflow_mul-result-2 : goal.overflow_mul-result-2
overflow_mul-result-2 c = omega arith

pub returns : goal.returns
returns c = rw c.full-full.ensures
