-- `beside` meets its contract. Assumes nothing.
use mathlib.Core.Path.{sym, ◌∙◌}
use mathlib.Core.Logic.{⊎_elim}
use Prim.Native.Nat.{◌<◌}
use native.Mathlib.Omega.{arith}
use borrow.Author.Tests.{lt-ltb, le-ltb}
use Rattle.rows.proofs.Grouping.{grouped_start, grouped_join, grouped_skip, grouped_end}
use Rattle.rows.proofs.beside.Lts as lts
use Rattle.rows.proofs.beside.Reads as reads
use Rattle.rows.proofs.beside.Tie as tie
use Rattle.rows.proofs.beside.Goals as goal

-- k is a task of the table
small : (c : lts.Else1 tie.the-claims reads.Pre reads.Post goal.the-invariant-loop-g goal.the-decreases-loop-g) → c.args.k < 32
small c = omega (arith, c.if-n-k.false, c.requires.1)

pub returns-then-n-k : goal.returns-then-n-k
returns-then-n-k c = rw (le-ltb _ _ c.if-n-k.true)

pub loop-g-init : goal.loop-g-init
loop-g-init c = grouped_start

pub has-requires : goal.has-requires
has-requires c = small c.before.before.before

pub loop-g-preserved : goal.loop-g-preserved
loop-g-preserved c =
    ⊎_elim
    (λ w. rw w.set-is (grouped_join c.loop-g.invariant c.loop-g-test.true (sym c.has.ensures ∙ w.if-has.true)))
    (λ w. rw w.set-is (grouped_skip c.loop-g.invariant c.loop-g-test.true (sym c.has.ensures ∙ w.if-has.false)))
    c.if-has.branch-raw

pub remove-requires : goal.remove-requires
remove-requires c = omega (arith, small c.before.before)

pub returns : goal.returns
returns c =
    rw (lt-ltb _ _ c.if-n-k.false) (grouped_end c.requires.0 c.loop-g.invariant c.loop-g-test.false c.remove.ensures)
