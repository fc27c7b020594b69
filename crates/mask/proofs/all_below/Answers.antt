-- `all_below` meets its contract. Assumes nothing.
use mathlib.Core.Path.{ap, ◌∙◌}
use Prim.Native.Nat.{ℕ, ◌-◌}
use native.Mathlib.Omega.{arith}
use lib.Pow.{pow_pos}
use Rattle.mask.proofs.Laws.{one_shl, first_mask}
use Rattle.mask.proofs.all_below.Goals as goal

pub overflow_sub-result : goal.overflow_sub-result
overflow_sub-result c = omega (arith, one_shl c.args.n 32 (omega arith), pow_pos c.args.n)

pub returns : goal.returns
returns c = ap (λ (x : ℕ). x - 1) (one_shl c.args.n 32 (omega arith)) ∙ first_mask c.args.n
