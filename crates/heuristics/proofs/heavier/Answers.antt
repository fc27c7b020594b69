-- By the test.
use mathlib.Core.Path.{refl}
use native.Mathlib.Omega.{arith}
use borrow.Author.Tests.{le-leb, lt-leb}
use Rattle.heuristics.proofs.heavier.Goals as goal

pub returns-then-weight-ge4000000000 : goal.returns-then-weight-ge4000000000
returns-then-weight-ge4000000000 c = rw (le-leb 4000000000 c.args.weight (omega arith)) refl

pub returns : goal.returns
returns c = rw (lt-leb 4000000000 c.args.weight (omega arith)) refl
