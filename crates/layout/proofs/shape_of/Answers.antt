-- `shape_of` meets its contract. Assumes nothing.
use mathlib.Core.Path.{sym, ap, ◌∙◌}
use Rattle.layout.specs.Format.{shape_of}
use Rattle.layout.proofs.shape_of.Goals as goal

pub returns-in-Network : goal.returns-in-Network
returns-in-Network c = c.new.ensures ∙ ap shape_of (sym c.in-Network.is)

pub returns-in-Processor : goal.returns-in-Processor
returns-in-Processor c = c.new-in-Processor.ensures ∙ ap shape_of (sym c.in-Processor.is)

pub returns-in-Task : goal.returns-in-Task
returns-in-Task c = c.new-in-Task.ensures ∙ ap shape_of (sym c.in-Task.is)

pub returns-in-CoResident : goal.returns-in-CoResident
returns-in-CoResident c = c.new-in-CoResident.ensures ∙ ap shape_of (sym c.in-CoResident.is)

pub returns-in-Exclusive : goal.returns-in-Exclusive
returns-in-Exclusive c = c.new-in-Exclusive.ensures ∙ ap shape_of (sym c.in-Exclusive.is)

pub returns-in-Message : goal.returns-in-Message
returns-in-Message c = c.new-in-Message.ensures ∙ ap shape_of (sym c.in-Message.is)
