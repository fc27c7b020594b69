-- `placement_conflict` meets its contract. Assumes nothing.
use mathlib.Core.Path.{sym, ap, ◌∙◌}
use Rattle.conflict.proofs.AnswerPlace.{answer_place}
use Rattle.placement.specs.Answers.{conflict_as}
use Rattle.placement.proofs.placement_conflict.Goals as goal

pub refused_as-requires : goal.refused_as-requires
refused_as-requires c = answer_place _ _ (sym c.check_conflict.ensures.value ∙ c.in-Err.is)

pub returns-in-Ok : goal.returns-in-Ok
returns-in-Ok c = c.finding_number.ensures ∙ ap conflict_as (sym c.in-Ok.is ∙ c.check_conflict.ensures.value)

pub returns-in-Err : goal.returns-in-Err
returns-in-Err c = c.refused_as.ensures ∙ ap conflict_as (sym c.in-Err.is ∙ c.check_conflict.ensures.value)
