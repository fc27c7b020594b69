-- Whatever the hint is, the conflict that it names is tested; else the first that is a subset is looked for.
use mathlib.Core.Path.{refl, sym, ap, ◌∙◌}
use mathlib.Core.Logic.{⊎_elim}
use Prim.Native.Nat.{ℕ}
use native.Mathlib.Omega.{arith}
use borrow.Author.Tests.{lt-ltb, le-ltb}
use lib.Dec.{ltb}
use Rattle.finite.proofs.Some.{some_true}
use Rattle.mask.proofs.Tests.{first_some}
use Rattle.nogoods.proofs.Covers.{hinted_hit, hinted_miss}
use Rattle.nogoods.proofs.covered_by_growing.Goals as goal

pub overflow_cast-hint : goal.overflow_cast-hint
overflow_cast-hint c = record { fits = omega arith }

pub returns-then-holds : goal.returns-then-holds
returns-then-holds c =
    let inside = sym c.holds.ensures ∙ c.if-holds.true in
    (sym (some_true _ _ _ c.if-hint-count.true inside), hinted_hit _ _ _ _ c.word_of-at.ensures c.if-hint-count.true inside)

pub returns : goal.returns
returns c =
    let a = c.args in
    let miss = ⊎_elim (λ w. rw (lt-ltb _ _ w.if-hint-count.true) (sym w.holds.ensures ∙ w.if-holds.false)) (λ w. rw (le-ltb _ _ w.if-hint-count.false) refl) c.before.else-hint-count.branch-raw in
    (ap (λ (x : ℕ). ltb x a.count) c.covering-number.ensures ∙ first_some _ _, hinted_miss _ _ _ _ c.word_of-at.ensures miss c.covering-number.ensures)
