-- The count of the set digits is the size.
use mathlib.Core.Path.{sym, ap}
use lib.Dec.{leb}
use borrow.Author.Rules.{rules}
use Rattle.mask.proofs.Laws.{cardinality_ones}
use Rattle.mask.proofs.at_least_two.Goals as goal

pub returns : goal.returns
returns c = ap (leb 2) (sym (cardinality_ones 32 c.args.mask (search rules)))
