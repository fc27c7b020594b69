-- The deadline minus the worst response; 0 for that is beyond.
use mathlib.Core.Path.{◌∙◌}
use mir.Syntax.{w32}
use mir.ValLaws.{to_z-of_z}
use Rattle.schedule.proofs.Signed.{margin_beyond, margin_known}
use Rattle.schedule.proofs.margin_by.Goals as goal

pub returns-then-worst-eq0 : goal.returns-then-worst-eq0
returns-then-worst-eq0 c = margin_beyond _ c.if-worst-eq0.true

pub returns : goal.returns
returns c = let e = c.difference.ensures in margin_known _ c.if-worst-eq0.false (to_z-of_z w32 _ (record { sfits = e.1 }) ∙ e.0)
