-- `joins` meets its contract. Assumes nothing.
use mathlib.Core.Path.{sym, ◌∙◌}
use mathlib.Core.Logic.{⊎_elim}
use borrow.Author.Tests.{eq-eqb, ne_eqb}
use Rattle.partial.proofs.joins.Goals as goal

pub returns-then-has : goal.returns-then-has
returns-then-has c = simp (eq-eqb _ _ c.if-from-k.true, sym c.has.ensures ∙ c.if-has.true)

pub returns-then-to-k : goal.returns-then-to-k
returns-then-to-k c =
    ⊎_elim
    (λ w. simp (eq-eqb _ _ w.if-from-k.true, sym w.has.ensures ∙ w.if-has.false, eq-eqb _ _ c.if-to-k.true) c.has-then-to-k.ensures)
    (λ w. simp (ne_eqb _ _ w.if-from-k.false, eq-eqb _ _ c.if-to-k.true) c.has-then-to-k.ensures)
    c.if-from-k.branch-raw

pub returns : goal.returns
returns c =
    ⊎_elim
    (λ w. simp (eq-eqb _ _ w.if-from-k.true, sym w.has.ensures ∙ w.if-has.false, ne_eqb _ _ c.if-to-k.false))
    (λ w. simp (ne_eqb _ _ w.if-from-k.false, ne_eqb _ _ c.if-to-k.false))
    c.if-from-k.branch-raw
