-- The sets below p are counted.
use mathlib.Core.Path.{◌≡◌, refl, ◌∙◌}
use native.Mathlib.Omega.{arith}
use borrow.Author.Rules.{rules}
use Rattle.subgradient.proofs.Laws.{counts_start, counts_next, counts_small}
use Rattle.subgradient.proofs.counts.Goals as goal

pub loop-p-init : goal.loop-p-init
loop-p-init c = (omega arith, counts_start c.args.sets)

pub counted-more-requires : goal.counted-more-requires
counted-more-requires c = rw c.loop-p.invariant.1 (counts_small c.args.sets c.loop-p.p 7 (search rules))

pub loop-p-preserved : goal.loop-p-preserved
loop-p-preserved c = (omega arith, c.counted-more.ensures ∙ rw c.loop-p.invariant.1 (counts_next c.args.sets c.loop-p.p))

pub returns : goal.returns
returns c = let e : c.loop-p.p ≡ c.args.m = omega (arith, c.loop-p.invariant.0, c.loop-p-test.false) in c.loop-p.invariant.1 ∙ rw e refl
