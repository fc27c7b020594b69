-- `suits` meets its contract. Assumes nothing.
use mathlib.Core.Path.{◌≡◌, sym, ◌∙◌}
use mathlib.Core.Bool.{Bool, true, not, ◌&&◌, not-not}
use borrow.Author.Rules.{rules}
use borrow.Author.Tests.{lt-leb, le-leb}
use Rattle.rules.specs.Sets.{meets}
use Rattle.partial.specs.Tests.{suits}
use Rattle.partial.proofs.suits.Goals as goal

-- where three tests pass, the fourth decides
the_last : (a b c d : Bool) → a ≡ true → b ≡ true → c ≡ true → d ≡ ((a && b) && (c && not (not d)))
the_last a b c d e f g = rw (e, f, g) (sym (not-not d))

pub has-requires : goal.has-requires
unfolding suits meets
has-requires c = search rules

pub returns-then-not-has : goal.returns-then-not-has
unfolding suits meets
returns-then-not-has c = simp (sym c.has.ensures ∙ c.if-not-has.true)

pub wide-requires : goal.wide-requires
unfolding suits meets
wide-requires c = search rules

pub returns-then-site-wide : goal.returns-then-site-wide
unfolding suits meets
returns-then-site-wide c =
    simp (sym c.has.ensures ∙ c.if-not-has.false, lt-leb _ _ (rw c.wide.ensures.0 at c.if-site-wide.true))

pub returns-then-site-wide-2 : goal.returns-then-site-wide-2
unfolding suits meets
returns-then-site-wide-2 c =
    simp (sym c.has.ensures ∙ c.if-not-has.false, le-leb _ _ (rw c.wide.ensures.0 at c.if-site-wide.false), lt-leb _ _ (rw c.wide-2.ensures.0 at c.if-site-wide-2.true))

pub returns : goal.returns
unfolding suits meets
returns c =
    the_last _ _ _ _ (sym c.has.ensures ∙ c.if-not-has.false) (le-leb _ _ (rw c.wide.ensures.0 at c.if-site-wide.false)) (le-leb _ _ (rw c.wide-2.ensures.0 at c.if-site-wide-2.false))
