-- `word_at` reads the number of four bytes as that of two and of those behind.
use native.Mathlib.Omega.{arith}
use Rattle.wire.proofs.Laws.{number_add}
use Rattle.wire.proofs.word_at.Goals as goal

pub returns : goal.returns
returns c = let a = c.args in omega (arith, number_add a.s.now a.at 2 2)
