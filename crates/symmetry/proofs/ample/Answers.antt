-- The room left falls by what each task of the set needs. Assumes nothing.
use borrow.Author.Rules.{rules}
use native.Mathlib.Omega.{arith}
use Rattle.mask.proofs.Visit.{visit_low}
use Rattle.symmetry.proofs.Taking.{taking_start, taking_end, taking_over, taking_next}
use Rattle.symmetry.proofs.ample.Goals as goal

pub loop-k-init : goal.loop-k-init
loop-k-init c = rw (c.into_iter-k-iterator.ensures.into_iter_gives, c.members-k-items.ensures) (taking_start (search rules))

pub offset_bounds-row-k : goal.offset_bounds-row-k
offset_bounds-row-k c = omega (arith, visit_low c.loop-k.invariant.taken.visit c.in-Some.ensures.steps 24 c.requires)

pub bounds-row-k : goal.bounds-row-k
bounds-row-k c = visit_low c.loop-k.invariant.taken.visit c.in-Some.ensures.steps 24 c.requires

pub returns-then-free-x : goal.returns-then-free-x
returns-then-free-x c = taking_over c.loop-k.invariant c.in-Some.ensures.steps c.wide-x.ensures.0 c.if-free-x.true

pub loop-k-preserved : goal.loop-k-preserved
loop-k-preserved c = taking_next c.loop-k.invariant c.in-Some.ensures.steps c.wide-x.ensures.0 c.if-free-x.false

pub returns : goal.returns
returns c = taking_end c.loop-k.invariant c.in-None.ensures.steps.0
