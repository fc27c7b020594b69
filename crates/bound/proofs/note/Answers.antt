-- One number is written, unless the run is weighted.
use mathlib.Core.Path.{refl}
use borrow.Author.Rules.{rules}
use Rattle.bound.specs.Due.{tried_heuristics}
use Rattle.bound.proofs.note.Goals as goal

pub credit-heuristics-requires : goal.credit-heuristics-requires
unfolding tried_heuristics
credit-heuristics-requires c = search rules

pub returns-then-not-heuristics : goal.returns-then-not-heuristics
unfolding tried_heuristics
returns-then-not-heuristics c = rw (c.if-not-heuristics.true, c.credit-heuristics.ensures) refl

pub returns-else-not-heuristics : goal.returns-else-not-heuristics
unfolding tried_heuristics
returns-else-not-heuristics c = rw (c.if-not-heuristics.false) refl
