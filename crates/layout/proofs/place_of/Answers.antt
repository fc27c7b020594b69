-- `place_of` meets its contract. Assumes nothing.
use mathlib.Core.Path.{◌∙◌}
use native.Mathlib.Omega.{arith}
use Rattle.layout.proofs.Places.{place_most}
use Rattle.layout.proofs.place_of.Goals as goal

pub place_in-requires : goal.place_in-requires
place_in-requires c = rw c.series_of.ensures (omega (arith, place_most c.args.x c.requires.0 c.args.kind c.args.j c.requires.1))

pub returns : goal.returns
returns c = c.place_in.ensures ∙ rw c.series_of.ensures
