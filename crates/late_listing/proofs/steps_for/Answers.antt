-- By the test.
use mathlib.Core.Path.{refl}
use native.Mathlib.Omega.{arith}
use borrow.Author.Tests.{le-leb, lt-leb}
use Rattle.late_listing.proofs.steps_for.Goals as goal

pub returns-then-nodes-ge40000000 : goal.returns-then-nodes-ge40000000
returns-then-nodes-ge40000000 c = rw (le-leb 40000000 c.args.nodes (omega arith)) refl

pub returns : goal.returns
returns c = rw (lt-leb 40000000 c.args.nodes (omega arith)) refl
