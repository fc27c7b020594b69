-- `message_verdict` meets its contract. Assumes nothing.
use mathlib.Core.Path.{sym, ◌∙◌}
use borrow.Author.Rules.{rules}
use Rattle.verdict.specs.Faults.{content_verdict, out_of_range, not_in_file, priority_used, hyperperiod_too_large}
use Rattle.verdict.proofs.message_verdict.Goals as goal

pub word_at-requires : goal.word_at-requires
unfolding content_verdict out_of_range not_in_file priority_used hyperperiod_too_large
word_at-requires c = search rules

pub is_in_range-requires : goal.is_in_range-requires
unfolding content_verdict out_of_range not_in_file priority_used hyperperiod_too_large
is_in_range-requires c = search rules

pub pair_verdict-requires : goal.pair_verdict-requires
unfolding content_verdict out_of_range not_in_file priority_used hyperperiod_too_large
pair_verdict-requires c = search rules

pub returns-then-not-is_in_range : goal.returns-then-not-is_in_range
unfolding content_verdict out_of_range not_in_file priority_used hyperperiod_too_large
returns-then-not-is_in_range c = simp (← c.word_at.ensures, sym c.is_in_range.ensures ∙ c.if-not-is_in_range.true)

pub returns : goal.returns
unfolding content_verdict out_of_range not_in_file priority_used hyperperiod_too_large
returns c = simp (← c.word_at.ensures, sym c.is_in_range.ensures ∙ c.if-not-is_in_range.false) c.pair_verdict.ensures
