-- `room` meets its contract. Assumes nothing.
use mathlib.Core.Path.{◌≡◌, refl}
use mathlib.Core.Bool.{Bool, true, ◌&&◌}
use borrow.Author.Tests.{lt-leb, le-leb}
use Rattle.knapsack.proofs.room.Goals as goal

-- where two tests pass, the third decides
the_last : (a b c : Bool) → a ≡ true → b ≡ true → c ≡ ((a && b) && c)
the_last a b c e f = rw (e, f) refl

pub returns-then-space-wide : goal.returns-then-space-wide
returns-then-space-wide c = simp (lt-leb _ _ (rw c.wide.ensures.0 at c.if-space-wide.true))

pub returns-then-spare-wide : goal.returns-then-spare-wide
returns-then-spare-wide c =
    simp (le-leb _ _ (rw c.wide.ensures.0 at c.if-space-wide.false), lt-leb _ _ (rw c.wide-2.ensures.0 at c.if-spare-wide.true))

pub returns : goal.returns
returns c =
    the_last _ _ _ (le-leb _ _ (rw c.wide.ensures.0 at c.if-space-wide.false)) (le-leb _ _ (rw c.wide-2.ensures.0 at c.if-spare-wide.false))
