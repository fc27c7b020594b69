-- `processor_verdict` meets its contract. Assumes nothing.
use mathlib.Core.Path.{sym, ◌∙◌}
use borrow.Author.Rules.{rules}
use Rattle.verdict.specs.Faults.{content_verdict, out_of_range, not_in_file, priority_used, periods_differ, message_repeated, hyperperiod_too_large}
use Rattle.verdict.proofs.processor_verdict.Goals as goal

pub half_at-requires : goal.half_at-requires
unfolding content_verdict out_of_range not_in_file priority_used periods_differ message_repeated hyperperiod_too_large
half_at-requires c = search rules

pub is_in_range-requires : goal.is_in_range-requires
unfolding content_verdict out_of_range not_in_file priority_used periods_differ message_repeated hyperperiod_too_large
is_in_range-requires c = search rules

pub returns-then-not-is_in_range : goal.returns-then-not-is_in_range
unfolding content_verdict out_of_range not_in_file priority_used periods_differ message_repeated hyperperiod_too_large
returns-then-not-is_in_range c = simp (← c.half_at.ensures.0, sym c.is_in_range.ensures ∙ c.if-not-is_in_range.true)

pub returns : goal.returns
unfolding content_verdict out_of_range not_in_file priority_used periods_differ message_repeated hyperperiod_too_large
returns c = simp (← c.half_at.ensures.0, sym c.is_in_range.ensures ∙ c.if-not-is_in_range.false)
