-- `content_verdict` meets its contract. Assumes nothing.
use mathlib.Core.Path.{◌∙◌}
use Rattle.verdict.specs.Faults.{content_verdict, out_of_range, not_in_file, priority_used, periods_differ, message_repeated, hyperperiod_too_large}
use Rattle.verdict.proofs.content_verdict.Goals as goal

pub processor_verdict-requires : goal.processor_verdict-requires
unfolding content_verdict out_of_range not_in_file priority_used periods_differ message_repeated hyperperiod_too_large
processor_verdict-requires c = rw c.in-Processor.is at c.requires.1

pub task_verdict-requires : goal.task_verdict-requires
unfolding content_verdict out_of_range not_in_file priority_used periods_differ message_repeated hyperperiod_too_large
task_verdict-requires c = (c.requires.0, rw c.in-Task.is at c.requires.1)

pub group_verdict-requires : goal.group_verdict-requires
unfolding content_verdict out_of_range not_in_file priority_used periods_differ message_repeated hyperperiod_too_large
group_verdict-requires c = (c.requires.0, rw c.in-CoResident.is at c.requires.1)

pub group_verdict-requires-in-Exclusive : goal.group_verdict-requires-in-Exclusive
unfolding content_verdict out_of_range not_in_file priority_used periods_differ message_repeated hyperperiod_too_large
group_verdict-requires-in-Exclusive c = (c.requires.0, rw c.in-Exclusive.is at c.requires.1)

pub message_verdict-requires : goal.message_verdict-requires
unfolding content_verdict out_of_range not_in_file priority_used periods_differ message_repeated hyperperiod_too_large
message_verdict-requires c = (c.requires.0, rw c.in-Message.is at c.requires.1)

pub returns-in-Network : goal.returns-in-Network
unfolding content_verdict out_of_range not_in_file priority_used periods_differ message_repeated hyperperiod_too_large
returns-in-Network c = rw c.in-Network.is

pub returns-in-Processor : goal.returns-in-Processor
unfolding content_verdict out_of_range not_in_file priority_used periods_differ message_repeated hyperperiod_too_large
returns-in-Processor c = rw c.in-Processor.is c.processor_verdict.ensures

pub returns-in-Task : goal.returns-in-Task
unfolding content_verdict out_of_range not_in_file priority_used periods_differ message_repeated hyperperiod_too_large
returns-in-Task c = rw c.in-Task.is c.task_verdict.ensures

pub returns-in-CoResident : goal.returns-in-CoResident
unfolding content_verdict out_of_range not_in_file priority_used periods_differ message_repeated hyperperiod_too_large
returns-in-CoResident c = c.group_verdict.ensures ∙ rw c.in-CoResident.is

pub returns-in-Exclusive : goal.returns-in-Exclusive
unfolding content_verdict out_of_range not_in_file priority_used periods_differ message_repeated hyperperiod_too_large
returns-in-Exclusive c = c.group_verdict-in-Exclusive.ensures ∙ rw c.in-Exclusive.is

pub returns-in-Message : goal.returns-in-Message
unfolding content_verdict out_of_range not_in_file priority_used periods_differ message_repeated hyperperiod_too_large
returns-in-Message c = rw c.in-Message.is c.message_verdict.ensures
