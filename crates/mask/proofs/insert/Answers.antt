-- The shifted 1 is 2 ^ k.
use mathlib.Core.Path.{ap}
use lib.Bits.{bit_or}
use borrow.Author.Rules.{rules}
use Rattle.mask.proofs.Laws.{one_shl}
use Rattle.mask.proofs.insert.Goals as goal

pub returns : goal.returns
returns c = ap (bit_or c.args.mask) (one_shl c.args.k 32 (search rules))
