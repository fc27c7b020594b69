-- The row of the region around it or its own is read, and its own is written.
use mathlib.Core.Path.{refl}
use mathlib.Core.Logic.{⊎_elim}
use native.Mathlib.Omega.{arith}
use Rattle.adaptive_bound.proofs.Open.{weighable_ones}
use Rattle.adaptive_bound.proofs.refute.Goals as goal

pub overflow_cast-open : goal.overflow_cast-open
overflow_cast-open c = omega (arith, weighable_ones c.requires.1 c.requires.2)

pub overflow_add-around : goal.overflow_add-around
overflow_add-around c = omega (arith, weighable_ones c.requires.1 c.requires.2)

pub offset_bounds-heuristics-around : goal.offset_bounds-heuristics-around
offset_bounds-heuristics-around c = ⊎_elim (λ w. omega (arith, weighable_ones c.requires.1 c.requires.2)) (λ w. omega (arith, weighable_ones c.requires.1 c.requires.2)) c.if-mode.branch-raw

pub bounds-heuristics-around : goal.bounds-heuristics-around
bounds-heuristics-around c = ⊎_elim (λ w. omega (arith, weighable_ones c.requires.1 c.requires.2)) (λ w. omega (arith, weighable_ones c.requires.1 c.requires.2)) c.if-mode.branch-raw

pub descend-descended-requires : goal.descend-descended-requires
descend-descended-requires c = (c.requires, omega arith, omega arith, omega arith)

pub offset_bounds-heuristics-open : goal.offset_bounds-heuristics-open
offset_bounds-heuristics-open c = omega (arith, weighable_ones c.requires.1 c.requires.2)

pub bounds-heuristics-open : goal.bounds-heuristics-open
bounds-heuristics-open c = omega (arith, weighable_ones c.requires.1 c.requires.2)

pub returns : goal.returns
returns c =
    (c.descend-descended.ensures, (c.descend-descended.result.best, rw (weighable_ones c.requires.1 c.requires.2).1 refl))
