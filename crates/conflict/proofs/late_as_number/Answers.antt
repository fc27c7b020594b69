-- `late_as_number` meets its contract. Assumes nothing.
use mathlib.Core.Path.{sym, ◌∙◌}
use native.Mathlib.Omega.{arith}
use Rattle.schedule.proofs.TasksOfArrays.{with_set}
use Rattle.conflict.proofs.Counting.{late_is}
use Rattle.conflict.proofs.late_as_number.Goals as goal
use Rattle.conflict.proofs.late_as_number.Goals.{else-only_below-via-then-only_below+else-is_late, else-only_below-via-else-only_below}

pub only_below-requires : goal.only_below-requires
only_below-requires c = omega (arith, c.requires.few)

pub is_late-requires : goal.is_late-requires
is_late-requires c = with_set c.requires _ (rw (sym c.only_below.ensures ∙ c.if-only_below.true) tt)

pub returns-then-is_late : goal.returns-then-is_late
returns-then-is_late c =
    let e = sym c.only_below.ensures ∙ c.if-only_below.true in
    (simp (e, sym (late_is (with_set c.requires _ (rw e tt)) _ c.is_late.ensures) ∙ c.if-is_late.true), omega arith)

pub returns : goal.returns
returns c =
    elim c.else-only_below.branch [
      | else-only_below-via-then-only_below+else-is_late w ↦
          let e = sym c.only_below.ensures ∙ w.if-only_below.true in
          (simp (e, sym (late_is (with_set c.requires _ (rw e tt)) _ w.is_late.ensures) ∙ w.if-is_late.false), omega arith)
      | else-only_below-via-else-only_below w ↦ (simp (sym c.only_below.ensures ∙ w.if-only_below.false), omega arith)
    ]
