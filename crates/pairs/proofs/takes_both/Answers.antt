-- The tests are made one after the other, and the first that fails decides.
use mathlib.Core.Path.{◌≡◌, sym, ◌∙◌}
use mathlib.Core.Bool.{Bool, true, ◌&&◌}
use borrow.Author.Rules.{rules}
use borrow.Author.Tests.{lt-leb, le-leb}
use lib.ListN.{get_or}
use Rattle.mask.specs.Mask.{has}
use Rattle.mask.proofs.Laws.{has_and}
use Rattle.pairs.specs.Pairs.{takes_both}
use Rattle.pairs.proofs.takes_both.Goals as goal

-- where two tests pass, the third decides
the_last : (a b c : Bool) → a ≡ true → b ≡ true → c ≡ (a && (b && c))
the_last a b c e f = rw (e, f)

pub has-requires : goal.has-requires
unfolding takes_both
has-requires c = search rules

pub returns-then-not-has : goal.returns-then-not-has
unfolding takes_both
returns-then-not-has c = simp (sym (let a = c.args in let row = a.rows.now.residence in c.has.ensures ∙ has_and (get_or row a.i 0) (get_or row a.j 0) a.p) ∙ c.if-not-has.true)

pub wide-requires : goal.wide-requires
unfolding takes_both
wide-requires c = search rules

pub returns-then-s-p : goal.returns-then-s-p
unfolding takes_both
returns-then-s-p c =
    simp (sym (let a = c.args in let row = a.rows.now.residence in c.has.ensures ∙ has_and (get_or row a.i 0) (get_or row a.j 0) a.p) ∙ c.if-not-has.false, lt-leb _ _ (rw (c.wide.ensures.0, c.wide-2.ensures.0) at c.if-s-p.true))

pub returns : goal.returns
unfolding takes_both
returns c =
    rw (c.wide-3.ensures.0, c.wide-4.ensures.0)
    (the_last _ _ _ (sym (let a = c.args in let row = a.rows.now.residence in c.has.ensures ∙ has_and (get_or row a.i 0) (get_or row a.j 0) a.p) ∙ c.if-not-has.false) (le-leb _ _ (rw (c.wide.ensures.0, c.wide-2.ensures.0) at c.if-s-p.false)))
