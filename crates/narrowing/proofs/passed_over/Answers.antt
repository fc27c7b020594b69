-- Either test answers by its definition, and what is known stays true.
use native.Mathlib.Omega.{arith}
use Rattle.conflict.proofs.Counting.{late_is}
use Rattle.late_cache.proofs.Laws.{small_set}
use Rattle.nogoods.proofs.Covers.{known_verdict, known_looked}
use Rattle.narrowing.proofs.passed_over.Goals as goal

pub covered-requires : goal.covered-requires
covered-requires c = let z = c.requires in (z.1, omega (arith, small_set z.0), z.2.covers)

pub returns-then-full : goal.returns-then-full
returns-then-full c = (rw c.if-full.true c.covered.ensures.0, known_looked c.requires.2 _ c.covered.ensures.1)

pub returns : goal.returns
returns c =
    let z = c.requires in
    let a = c.is_late in
    (rw c.if-full.false (late_is z.0 a.result a.ensures.0), known_verdict z.2 _ _ a.ensures.1 a.ensures.2)
