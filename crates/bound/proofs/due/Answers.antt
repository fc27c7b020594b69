-- By the number of open tasks, then the kind of the run, then the credit, then the skips.
use mathlib.Core.Path.{◌≡◌, refl}
use mathlib.Core.Bool.{true}
use mathlib.Core.Logic.{⊎_elim}
use native.Mathlib.Omega.{arith}
use borrow.Author.Rules.{rules}
use borrow.Author.Tests.{le-leb, lt-leb, eq-eqb, ne_eqb}
use lib.Dec.{leb}
use Rattle.mask.specs.Mask.{cardinality}
use Rattle.mask.proofs.Laws.{cardinality_ones}
use Rattle.bound.specs.Due.{asked_heuristics}
use Rattle.bound.proofs.due.Lts as lts
use Rattle.bound.proofs.due.Reads as reads
use Rattle.bound.proofs.due.Goals as goal

-- four tasks are open or more
many : (e : lts.Else1 reads.Pre reads.Post) → leb 4 (cardinality 32 e.before.args.left) ≡ true
many e = le-leb 4 (cardinality 32 e.before.args.left) (omega (arith, cardinality_ones 32 e.before.args.left (search rules)))

pub returns-then-left-lt4 : goal.returns-then-left-lt4
unfolding asked_heuristics
returns-then-left-lt4 c = let few = lt-leb 4 (cardinality 32 c.args.left) (omega (arith, cardinality_ones 32 c.args.left (search rules))) in rw few (refl, refl)

pub returns-then-heuristics : goal.returns-then-heuristics
unfolding asked_heuristics
returns-then-heuristics c =
    let four = many c.before in
    ⊎_elim (λ w. rw (four, w.if-heuristics.true) (refl, refl)) (λ w. rw (four, w.if-heuristics.false, ne_eqb _ _ w.if-heuristics-ne0.true) (refl, refl)) c.then-heuristics.branch-raw

pub returns : goal.returns
unfolding asked_heuristics
returns c = rw (many c.before.before.before, c.if-heuristics.false, eq-eqb _ _ c.if-heuristics-ne0.false) (refl, refl)
