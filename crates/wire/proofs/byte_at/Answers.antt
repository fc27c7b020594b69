-- `byte_at` reads the number of one byte.
use mathlib.Core.Path.{sym, ◌∙◌}
use Rattle.wire.proofs.Laws.{number_one}
use Rattle.wire.proofs.byte_at.Goals as goal

pub returns : goal.returns
returns c = let a = c.args in (c.byte.ensures.0 ∙ sym (number_one a.s.now a.at), c.byte.ensures.1)
