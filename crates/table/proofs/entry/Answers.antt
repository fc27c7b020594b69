-- `entry` meets its contract. Assumes nothing.
use mathlib.Core.Path.{sym}
use native.Mathlib.Omega.{arith}
use borrow.Author.Tests.{lt-ltb, le-ltb}
use Rattle.verdict.proofs.Inside.{record_in}
use Rattle.table.proofs.entry.Goals as goal

pub returns-then-count_of-j : goal.returns-then-count_of-j
returns-then-count_of-j c = simp (le-ltb _ _ (rw c.count_of.ensures at c.if-count_of-j.true))

pub place_of-requires : goal.place_of-requires
place_of-requires c = let r = c.requires.reached.counted in (r, omega (arith, c.if-count_of-j.false, c.count_of.ensures, r.few c.args.kind))

pub overflow_add-place_of : goal.overflow_add-place_of
overflow_add-place_of c =
    omega (
      arith,
      c.place_of.ensures,
      c.requires.holds,
      record_in c.requires.reached c.args.kind c.args.j (omega (arith, c.if-count_of-j.false, c.count_of.ensures)),
    )

pub number_at-requires : goal.number_at-requires
number_at-requires c =
    omega (
      arith,
      c.place_of.ensures,
      c.requires.holds,
      record_in c.requires.reached c.args.kind c.args.j (omega (arith, c.if-count_of-j.false, c.count_of.ensures)),
    )

pub returns : goal.returns
returns c = simp (lt-ltb _ _ (rw c.count_of.ensures at c.if-count_of-j.false), sym c.place_of.ensures) c.number_at.ensures
