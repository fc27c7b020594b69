-- The product is at most that of the factors' limits.
use mathlib.Core.Path.{refl}
use Prim.Native.Nat.{◌+◌, ◌*◌, ◌/◌, ◌≤◌}
use native.Mathlib.Omega.{arith}
use native.Mathlib.Nat.{mul-le-mul}
use Rattle.subgradient.proofs.stride.Lts as lts
use Rattle.subgradient.proofs.stride.Reads as reads
use Rattle.subgradient.proofs.stride.Goals as goal

product : (c : lts.Start reads.Pre reads.Post) → (c.args.gap + c.args.scale / 200 + 1) * c.args.alpha ≤ 825149116716 * 100
product c = mul-le-mul {n₂ = 825149116716} (omega (arith, c.requires.0, c.requires.1)) c.requires.2

pub overflow_mul-result : goal.overflow_mul-result
overflow_mul-result c = omega (arith, product c)

pub returns : goal.returns
returns c = (refl, omega (arith, product c))
