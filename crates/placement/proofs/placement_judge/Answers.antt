-- `placement_judge` meets its contract. Assumes nothing.
use mathlib.Core.Path.{ap, ◌∙◌}
use Rattle.judge.specs.Judge.{judgement_number}
use Rattle.placement.proofs.placement_judge.Goals as goal

pub returns : goal.returns
returns c = c.judgement_number.ensures ∙ ap judgement_number c.judge-judged.ensures
