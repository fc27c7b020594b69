-- `task_verdict` meets its contract. Assumes nothing.
use mathlib.Core.Path.{sym, ◌∙◌}
use native.Mathlib.Omega.{arith}
use borrow.Author.Tests.{lt-ltb, le-ltb}
use borrow.Author.Rules.{rules}
use Rattle.layout.specs.declared.Kind.TheVariants.{Processor}
use Rattle.verdict.specs.Faults.{content_verdict, not_in_file, priority_used, periods_differ, message_repeated, hyperperiod_too_large}
use Rattle.verdict.proofs.Passed.{task_range}
use Rattle.verdict.proofs.task_verdict.Goals as goal

pub task_out_of_range-requires : goal.task_out_of_range-requires
unfolding content_verdict not_in_file priority_used periods_differ message_repeated hyperperiod_too_large
task_out_of_range-requires c = search rules

pub returns-then-task_out_of_range : goal.returns-then-task_out_of_range
unfolding content_verdict not_in_file priority_used periods_differ message_repeated hyperperiod_too_large
returns-then-task_out_of_range c = simp (sym c.task_out_of_range.ensures ∙ c.if-task_out_of_range.true)

pub half_at-requires : goal.half_at-requires
unfolding content_verdict not_in_file priority_used periods_differ message_repeated hyperperiod_too_large
half_at-requires c = search rules

pub bad_residence-requires : goal.bad_residence-requires
unfolding content_verdict not_in_file priority_used periods_differ message_repeated hyperperiod_too_large
bad_residence-requires c = omega (arith, c.requires.0.counted.few Processor)

pub returns-then-bad_residence : goal.returns-then-bad_residence
unfolding content_verdict not_in_file priority_used periods_differ message_repeated hyperperiod_too_large
returns-then-bad_residence c = simp (sym c.task_out_of_range.ensures ∙ c.if-task_out_of_range.false, ← c.half_at.ensures.0, sym c.bad_residence.ensures ∙ c.if-bad_residence.true)

pub repeated-requires : goal.repeated-requires
unfolding content_verdict not_in_file priority_used periods_differ message_repeated hyperperiod_too_large
repeated-requires c = (c.requires.0, c.requires.1, omega arith)

pub returns-then-repeated : goal.returns-then-repeated
unfolding content_verdict not_in_file priority_used periods_differ message_repeated hyperperiod_too_large
returns-then-repeated c =
    simp (
      sym c.task_out_of_range.ensures ∙ c.if-task_out_of_range.false,
      ← c.half_at.ensures.0,
      sym c.bad_residence.ensures ∙ c.if-bad_residence.false,
      sym c.repeated.ensures ∙ c.if-repeated.true,
    )

pub word_at-requires : goal.word_at-requires
unfolding content_verdict not_in_file priority_used periods_differ message_repeated hyperperiod_too_large
word_at-requires c = search rules

pub least_common_multiple-hyperperiod-requires : goal.least_common_multiple-hyperperiod-requires
unfolding content_verdict not_in_file priority_used periods_differ message_repeated hyperperiod_too_large
least_common_multiple-hyperperiod-requires c =
    let t = task_range _ _ (sym c.task_out_of_range.ensures ∙ c.if-task_out_of_range.false) in
    (c.requires.0.most, omega (arith, c.word_at.ensures, t.works, t.c_d, t.d_t), omega (arith, c.word_at.ensures, t.ticks))

pub returns-then-hyperperiod-gt1000000000 : goal.returns-then-hyperperiod-gt1000000000
unfolding content_verdict not_in_file priority_used periods_differ message_repeated hyperperiod_too_large
returns-then-hyperperiod-gt1000000000 c =
    simp (
      sym c.task_out_of_range.ensures ∙ c.if-task_out_of_range.false,
      ← c.half_at.ensures.0,
      sym c.bad_residence.ensures ∙ c.if-bad_residence.false,
      sym c.repeated.ensures ∙ c.if-repeated.false,
      ← c.word_at.ensures,
      ← c.least_common_multiple-hyperperiod.ensures.0,
      lt-ltb _ _ c.if-hyperperiod-gt1000000000.true,
    )

pub returns : goal.returns
unfolding content_verdict not_in_file priority_used periods_differ message_repeated hyperperiod_too_large
returns c =
    simp (
      sym c.task_out_of_range.ensures ∙ c.if-task_out_of_range.false,
      ← c.half_at.ensures.0,
      sym c.bad_residence.ensures ∙ c.if-bad_residence.false,
      sym c.repeated.ensures ∙ c.if-repeated.false,
      ← c.word_at.ensures,
      ← c.least_common_multiple-hyperperiod.ensures.0,
      le-ltb _ _ c.if-hyperperiod-gt1000000000.false,
    )
