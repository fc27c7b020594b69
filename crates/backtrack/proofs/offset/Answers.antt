-- A remainder by m is less than m.
use native.Mathlib.Nat.{mod-lt}
use Rattle.backtrack.proofs.offset.Goals as goal

pub returns : goal.returns
returns c = mod-lt _ c.requires
