-- Nothing has been tried.
use mathlib.Core.Path.{refl}
use Rattle.descent.specs.Descent.{begin_of}
use Rattle.descent.proofs.begin.Goals as goal

pub returns : goal.returns
unfolding begin_of
returns c = refl
