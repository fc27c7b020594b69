-- `takes` meets its contract. Assumes nothing.
use mathlib.Core.Path.{◌≡◌, sym, ◌∙◌}
use mathlib.Core.Bool.{Bool, true, ◌&&◌}
use borrow.Author.Tests.{lt-leb, le-leb}
use Rattle.subsets.proofs.takes.Goals as goal

-- where three tests pass, the fourth decides
the_last : {r : Bool} (a b c d : Bool) → a ≡ true → b ≡ true → c ≡ true → r ≡ d → r ≡ ((a && b) && (c && d))
the_last a b c d e f g h = rw (e, f, g) h

pub returns-then-not-has : goal.returns-then-not-has
returns-then-not-has c = simp (sym c.has.ensures ∙ c.if-not-has.true)

pub returns-then-s-p : goal.returns-then-s-p
returns-then-s-p c =
    simp (sym c.has.ensures ∙ c.if-not-has.false, lt-leb _ _ c.if-s-p.true)

pub returns-then-s-p-2 : goal.returns-then-s-p-2
returns-then-s-p-2 c =
    simp (sym c.has.ensures ∙ c.if-not-has.false, le-leb _ _ c.if-s-p.false, lt-leb _ _ c.if-s-p-2.true)

pub returns : goal.returns
returns c =
    the_last _ _ _ _ (sym c.has.ensures ∙ c.if-not-has.false) (le-leb _ _ c.if-s-p.false) (le-leb _ _ c.if-s-p-2.false) c.can_stand.ensures
