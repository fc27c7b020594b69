-- `Load::thousandths` meets its contract: below half a thousandth, above it, and at exactly half.
use Prim.Native.Nat.{◌*◌}
use native.Mathlib.Nat.{mod-le, div-le_self}
use native.Mathlib.Omega.{arith}
use Rattle.load.proofs.Nearest.{below_half, above_half, at_half}
use Rattle.load.proofs.Load.thousandths.Goals as goal

pub overflow_mul-twice : goal.overflow_mul-twice
overflow_mul-twice c = omega (arith, mod-le (1000 * c.args.self.0) c.args.h)

pub returns-then-twice-h : goal.returns-then-twice-h
returns-then-twice-h c = below_half _ _ (omega arith)

pub overflow_add-result : goal.overflow_add-result
overflow_add-result c = omega (arith, div-le_self (1000 * c.args.self.0) c.args.h)

pub returns-then-h-twice : goal.returns-then-h-twice
returns-then-h-twice c = above_half _ _ (omega arith)

pub overflow_add-result-2 : goal.overflow_add-result-2
overflow_add-result-2 c = omega (arith, div-le_self (1000 * c.args.self.0) c.args.h)

pub returns : goal.returns
returns c = at_half _ _ (omega arith)
