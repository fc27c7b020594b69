-- `period_of` meets its contract. Assumes nothing.
use mathlib.Core.Path.{sym}
use native.Mathlib.Omega.{arith}
use Rattle.layout.specs.declared.Kind.TheVariants.{Task}
use Rattle.layout.proofs.Places.{place_within}
use Rattle.verdict.proofs.period_of.Goals as goal

pub place_of-requires : goal.place_of-requires
place_of-requires c = (c.requires.0, omega (arith, c.requires.2, c.requires.0.few Task))

pub overflow_add-place_of : goal.overflow_add-place_of
overflow_add-place_of c = omega (arith, c.place_of.ensures, place_within c.args.x Task c.args.j c.requires.2, c.requires.1)

pub word_at-requires : goal.word_at-requires
word_at-requires c = omega (arith, c.place_of.ensures, place_within c.args.x Task c.args.j c.requires.2, c.requires.1)

pub returns : goal.returns
returns c = simp (sym c.place_of.ensures) c.word_at.ensures
