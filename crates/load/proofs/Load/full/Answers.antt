-- `Load::full` meets its contract. Assumes nothing.
use mathlib.Core.Path.{refl}
use Rattle.load.proofs.Load.full.Goals as goal

pub returns : goal.returns
returns c = refl
