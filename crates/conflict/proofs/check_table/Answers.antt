-- `check_table` meets its contract. Assumes nothing.
use mathlib.Core.Path.{◌∙◌}
use mathlib.Core.Path.{ap}
use mathlib.Core.Bool.{not}
use borrow.Author.Tests.{lt-ltb}
use Rattle.verdict.proofs.Passed.{group_known}
use Rattle.verdict.proofs.Tests.{group_by}
use Rattle.timing.proofs.Limits.{limits_of}
use Rattle.conflict.proofs.check_table.Goals as goal

pub returns-then-not-is_group : goal.returns-then-not-is_group
returns-then-not-is_group c =
    let a = c.args in
    record { value = simp (group_by a.table.tasks.count a.mask c.is_group.ensures ∙ ap not c.if-not-is_group.true); right = tt }

pub classify-requires : goal.classify-requires
classify-requires c =
    let a = c.args in
    let known = group_known a.table.tasks.count a.mask (group_by a.table.tasks.count a.mask c.is_group.ensures ∙ ap not c.if-not-is_group.false) in
    rw c.timing_of-timing.ensures (limits_of c.requires _ (rw (lt-ltb _ _ known.0) tt))

pub returns : goal.returns
returns c =
    let a = c.args in
    let t = c.timing_of-timing.ensures in
    record {
      value = simp (group_by a.table.tasks.count a.mask c.is_group.ensures ∙ ap not c.if-not-is_group.false, rw t at c.classify.ensures.value);
      right = rw t at c.classify.ensures.right;
    }
