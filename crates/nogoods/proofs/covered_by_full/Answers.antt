-- The table is opened where there is none; a word with the set tells, else the conflicts are looked at and the word is written anew.
use mathlib.Core.Path.{◌≡◌, refl, ap, ◌∙◌}
use mathlib.Core.Logic.{⊎_elim}
use mathlib.Core.List.{List}
use Prim.Native.Nat.{ℕ}
use native.Mathlib.Omega.{arith}
use borrow.Author.Tests.{lt-ltb, le-ltb, eq-eqb, ne_eqb}
use lib.Dec.{ltb}
use Rattle.mask.proofs.Tests.{first_some}
use Rattle.late_cache.proofs.Laws.{bool_small}
use Rattle.nogoods.specs.Nogoods.{opened, tabled}
use Rattle.nogoods.proofs.Covers.{opened_there, opened_new, opened_tells, tabled_hit, tabled_miss, tabled_true}
use Rattle.nogoods.proofs.covered_by_full.Lts as lts
use Rattle.nogoods.proofs.covered_by_full.Reads as reads
use Rattle.nogoods.proofs.covered_by_full.Tie as tie
use Rattle.nogoods.proofs.covered_by_full.Goals as goal

-- there is a table
opened_here : (c : lts.After-word_of tie.the-claims reads.Pre reads.Post) → c.if-lateness-ne1.lateness ≡ opened c.args.lateness.now
opened_here c = ⊎_elim (λ w. w.lateness-is ∙ w.open_table.ensures ∙ opened_new _ w.if-lateness-ne1.true) (λ w. w.lateness-is ∙ opened_there _ w.if-lateness-ne1.false) c.before.if-lateness-ne1.branch-raw

pub returns-then-word-set : goal.returns-then-word-set
returns-then-word-set c =
    let e = c.word_of-at.ensures in
    let o = opened_here c.before.before.before.before.before in
    let there = rw o at c.if-word-gt0.true in
    let same = rw o at (eq-eqb _ _ c.if-word-set.true) in
    rw o (
      tabled_true (opened c.args.lateness.now) c.args.list.now c.args.count c.args.set e (rw e (opened_tells c.requires.3 c.args.set)) there same,
      tabled_hit _ _ _ _ e there same,
    )

pub overflow_add-lateness : goal.overflow_add-lateness
overflow_add-lateness c = omega (arith, bool_small (ltb c.covering.result c.args.count))

pub returns : goal.returns
returns c =
    let a = c.args in
    let found = ap (λ (x : ℕ). ltb x a.count) c.covering.ensures ∙ first_some _ _ in (
      found,
      tabled_miss c.if-lateness-ne1.lateness a.list.now a.count a.set c.word_of-at.ensures
          (⊎_elim (λ w. rw (lt-ltb _ _ w.if-word-gt0.true) (ne_eqb _ _ w.if-word-set.false)) (λ w. rw (le-ltb _ _ w.if-word-gt0.false) refl) c.before.else-word-gt0.branch-raw) found
          ∙ ap (λ (l : List ℕ). tabled l a.list.now a.count a.set) (opened_here c.before.before.before.before.before.before),
    )
