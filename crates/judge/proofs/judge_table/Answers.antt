-- `judge_table` meets its contract. Assumes nothing.
use mathlib.Core.Path.{sym}
use borrow.Author.Tests.{eq-eqb, ne_eqb}
use Rattle.rules.proofs.Sets.{sets_placed}
use Rattle.judge.specs.Judge.{judged_on}
use Rattle.judge.proofs.Limits.{placement_of, placeable_of}
use Rattle.judge.proofs.judge_table.Goals as goal

pub returns-then-placement-n : goal.returns-then-placement-n
unfolding judged_on
returns-then-placement-n c = rw (ne_eqb _ _ c.if-placement-n.true) c.refused.ensures

pub returns-in-Some : goal.returns-in-Some
unfolding judged_on
returns-in-Some c = rw (eq-eqb _ _ c.if-placement-n.false, ← c.in-Some.ensures) c.refused-in-Some.ensures

pub sets_of-sets-requires : goal.sets_of-sets-requires
unfolding judged_on
sets_of-sets-requires c = placeable_of c.requires (placement_of c.if-placement-n.false (sym c.in_default.ensures))

pub times_of-requires : goal.times_of-requires
unfolding judged_on
times_of-requires c = (c.requires, placement_of c.if-placement-n.false (sym c.in_default.ensures), c.sets_of-sets.ensures)

pub returns : goal.returns
unfolding judged_on
returns c =
    rw (
      eq-eqb _ _ c.if-placement-n.false,
      ← c.in_default.ensures,
      c.first_broken-check.ensures,
      c.times_of.ensures,
      c.sets_of-sets.ensures,
      sets_placed _ (placeable_of c.requires (placement_of c.if-placement-n.false (sym c.in_default.ensures))),
    )
