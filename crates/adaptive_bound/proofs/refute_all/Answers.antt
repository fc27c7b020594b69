-- The row of a whole decision is read; it is written, and so is the one above that of its open tasks.
use mathlib.Core.Path.{refl}
use native.Mathlib.Omega.{arith}
use Rattle.adaptive_bound.proofs.Open.{weighable_ones}
use Rattle.adaptive_bound.proofs.refute_all.Goals as goal

pub total-requires : goal.total-requires
total-requires c = (weighable_ones c.requires.1 c.requires.2).0

pub rescaled-from-requires : goal.rescaled-from-requires
rescaled-from-requires c = (weighable_ones c.requires.1 c.requires.2).0

pub descend-descended-requires : goal.descend-descended-requires
descend-descended-requires c = (c.requires, omega arith, omega arith, omega arith)

pub overflow_cast-best : goal.overflow_cast-best
overflow_cast-best c = omega (arith, weighable_ones c.requires.1 c.requires.2)

pub overflow_add-best : goal.overflow_add-best
overflow_add-best c = omega (arith, weighable_ones c.requires.1 c.requires.2)

pub offset_bounds-heuristics-s : goal.offset_bounds-heuristics-s
offset_bounds-heuristics-s c = omega (arith, weighable_ones c.requires.1 c.requires.2)

pub bounds-heuristics-s : goal.bounds-heuristics-s
bounds-heuristics-s c = omega (arith, weighable_ones c.requires.1 c.requires.2)

pub returns : goal.returns
returns c = (c.descend-descended.ensures, (c.descend-descended.result.best, rw (weighable_ones c.requires.1 c.requires.2).1 refl))
