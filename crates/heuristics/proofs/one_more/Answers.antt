-- By the test.
use mathlib.Core.Path.{refl}
use native.Mathlib.Omega.{arith}
use borrow.Author.Tests.{le-leb, lt-leb}
use Rattle.heuristics.proofs.one_more.Goals as goal

pub returns-then-count-ge4000000000 : goal.returns-then-count-ge4000000000
returns-then-count-ge4000000000 c = rw (le-leb 4000000000 c.args.count (omega arith)) refl

pub returns : goal.returns
returns c = rw (lt-leb 4000000000 c.args.count (omega arith)) refl
