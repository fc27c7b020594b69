-- `series_of` meets its contract. Assumes nothing.
use mathlib.Core.Path.{ap}
use Rattle.layout.specs.declared.Shape.{Shape}
use Rattle.layout.proofs.series_of.Goals as goal

pub returns : goal.returns
returns c = simp (c.first_of.ensures, ap (λ (h : Shape). h.size) c.shape_of-shape.ensures)
