-- `kind_at` meets its contract. Assumes nothing.
use mathlib.Core.Path.{sym, ◌∙◌}
use borrow.Author.Rules.{rules}
use Rattle.layout.specs.Format.{kind_at}
use Rattle.layout.proofs.kind_at.Goals as goal

pub has_mark-requires : goal.has_mark-requires
unfolding kind_at
has_mark-requires c = search rules

pub returns-then-has_mark : goal.returns-then-has_mark
unfolding kind_at
returns-then-has_mark c = simp (sym c.has_mark.ensures ∙ c.if-has_mark.true)

pub returns-then-has_mark-2 : goal.returns-then-has_mark-2
unfolding kind_at
returns-then-has_mark-2 c = simp (sym c.has_mark.ensures ∙ c.if-has_mark.false, sym c.has_mark-2.ensures ∙ c.if-has_mark-2.true)

pub returns-then-has_mark-3 : goal.returns-then-has_mark-3
unfolding kind_at
returns-then-has_mark-3 c =
    simp (sym c.has_mark.ensures ∙ c.if-has_mark.false, sym c.has_mark-2.ensures ∙ c.if-has_mark-2.false, sym c.has_mark-3.ensures ∙ c.if-has_mark-3.true)

pub returns-then-has_mark-4 : goal.returns-then-has_mark-4
unfolding kind_at
returns-then-has_mark-4 c =
    simp (
      sym c.has_mark.ensures ∙ c.if-has_mark.false,
      sym c.has_mark-2.ensures ∙ c.if-has_mark-2.false,
      sym c.has_mark-3.ensures ∙ c.if-has_mark-3.false,
      sym c.has_mark-4.ensures ∙ c.if-has_mark-4.true,
    )

pub returns-then-has_mark-5 : goal.returns-then-has_mark-5
unfolding kind_at
returns-then-has_mark-5 c =
    simp (
      sym c.has_mark.ensures ∙ c.if-has_mark.false,
      sym c.has_mark-2.ensures ∙ c.if-has_mark-2.false,
      sym c.has_mark-3.ensures ∙ c.if-has_mark-3.false,
      sym c.has_mark-4.ensures ∙ c.if-has_mark-4.false,
      sym c.has_mark-5.ensures ∙ c.if-has_mark-5.true,
    )

pub returns-then-has_mark-6 : goal.returns-then-has_mark-6
unfolding kind_at
returns-then-has_mark-6 c =
    simp (
      sym c.has_mark.ensures ∙ c.if-has_mark.false,
      sym c.has_mark-2.ensures ∙ c.if-has_mark-2.false,
      sym c.has_mark-3.ensures ∙ c.if-has_mark-3.false,
      sym c.has_mark-4.ensures ∙ c.if-has_mark-4.false,
      sym c.has_mark-5.ensures ∙ c.if-has_mark-5.false,
      sym c.has_mark-6.ensures ∙ c.if-has_mark-6.true,
    )

pub returns : goal.returns
unfolding kind_at
returns c =
    simp (
      sym c.has_mark.ensures ∙ c.if-has_mark.false,
      sym c.has_mark-2.ensures ∙ c.if-has_mark-2.false,
      sym c.has_mark-3.ensures ∙ c.if-has_mark-3.false,
      sym c.has_mark-4.ensures ∙ c.if-has_mark-4.false,
      sym c.has_mark-5.ensures ∙ c.if-has_mark-5.false,
      sym c.has_mark-6.ensures ∙ c.if-has_mark-6.false,
    )
