-- The zeros below the lowest set digit are as many as its number.
use native.Mathlib.Nat.{lt_of_le_of_lt}
use lib.Dec.{lit<}
use lib.Count.{trailing_le}
use borrow.Author.Rules.{rules}
use Rattle.mask.proofs.Laws.{trailing}
use Rattle.mask.proofs.lowest.Goals as goal

pub overflow_cast-result : goal.overflow_cast-result
overflow_cast-result c = record { fits = lt_of_le_of_lt (trailing_le 32 _) (lit< tt) }

pub returns : goal.returns
returns c = trailing 32 c.args.mask (search rules) (search rules)
