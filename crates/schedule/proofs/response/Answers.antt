-- The least solution up to the deadline, which is within the period.
use mathlib.Core.Path.{◌∙◌}
use Rattle.schedule.proofs.TasksOfArrays.{valid_of, constrained_of, deadline_bound}
use Rattle.schedule.proofs.LateSets.{response_cut}
use Rattle.schedule.proofs.response.Goals as goal

pub least_solution-requires : goal.least_solution-requires
least_solution-requires c = let p = c.requires in (p.0, p.1, p.0.in_deadline _ p.1, deadline_bound p.0 _ p.1)

pub returns : goal.returns
returns c = let p = c.requires in c.least_solution.ensures ∙ response_cut _ (valid_of p.0) _ _ p.1 (constrained_of p.0 _ p.1)
