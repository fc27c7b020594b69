-- The tasks are looked at in rising order: what is left of them, with the best so far, gives the answer.
use mathlib.Core.Path.{◌≡◌}
use Rattle.mask.proofs.Visit.{Visit}
use Rattle.branching.specs.Branching.{members_from, pick_from, pick_of}
use Rattle.branching.proofs.pick.Given as goal

abbrev pub invariant-loop-k : goal.invariant-loop-k
invariant-loop-k l =
    let rest = l.k-iterator.left in
    Visit l.left rest (λ k. Unit {0}) × (pick_from l.base l.may l.processors (members_from 32 0 rest) l.best l.least l.heuristics ≡ pick_of l.base l.processors l.left l.may l.initial.heuristics)
