-- The shifted 1 is 2 ^ k, and what the set shares with it is no more than the set.
use mathlib.Core.Path.{ap}
use Prim.Native.Nat.{ℕ, ◌-◌}
use lib.Bits.{bit_and, and_le_l}
use borrow.Author.Rules.{rules}
use Rattle.mask.proofs.Laws.{one_shl}
use Rattle.mask.proofs.remove.Goals as goal

pub overflow_sub-result : goal.overflow_sub-result
overflow_sub-result c = and_le_l _ _

pub returns : goal.returns
returns c = ap (λ (x : ℕ). c.args.mask - bit_and c.args.mask x) (one_shl c.args.k 32 (search rules))
