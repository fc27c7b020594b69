-- The places below k hold their directions.
use native.Mathlib.Omega.{arith}
use borrow.Author.Rules.{rules}
use Rattle.finite.proofs.Filling.{filled_start, filled_next, filled_end}
use Rattle.subgradient.proofs.direction.Invariants.{new}
use Rattle.subgradient.proofs.direction.Goals as goal

pub loop-k-init : goal.loop-k-init
loop-k-init c = (omega arith, filled_start (new c.args.first c.args.before c.args.counts))

pub direction_from-requires : goal.direction_from-requires
direction_from-requires c = let z = c.requires in (z.0.each _ c.loop-k-test.true, z.1.each _ c.loop-k-test.true)

pub loop-k-preserved : goal.loop-k-preserved
loop-k-preserved c = let a = c.args in (omega arith, filled_next (new a.first a.before a.counts) c.loop-k.invariant.1 (search rules) c.direction_from.ensures)

pub returns : goal.returns
returns c = let a = c.args in filled_end (new a.first a.before a.counts) c.loop-k.invariant.1 (search rules)
