-- Two rooms that differ are alike where the lesser is ample. Assumes nothing.
use mathlib.Core.Logic.{inl}
use Rattle.symmetry.proofs.Rooms.{rooms_alike}
use Rattle.symmetry.proofs.alike.Goals as goal

pub returns-then-a-b : goal.returns-then-a-b
returns-then-a-b c = λ n b. inl c.if-a-b.true

pub returns : goal.returns
returns c = λ n b. rooms_alike _ _ c.if-a-b.false c.lower.ensures (c.ample.ensures n b)
