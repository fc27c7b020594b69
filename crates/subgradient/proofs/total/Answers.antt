-- The sum is that of the members that have come. The weights fit 32 bits.
use mathlib.Core.Path.{refl}
use Prim.Native.Nat.{◌≤◌}
use native.Mathlib.Omega.{arith}
use borrow.Author.Rules.{rules}
use Rattle.mask.proofs.Visit.{visit_low}
use Rattle.mask.proofs.Summed.{summed_start, summed_fits, summed_next, summed_end}
use Rattle.mask.proofs.Laws.{sum_most}
use Rattle.subgradient.specs.Subgradient.{total_of, heaviest}
use Rattle.subgradient.proofs.total.Goals as goal
use Rattle.subgradient.proofs.total.Goals.{Start}

light : (c : Start) → total_of c.args.weights.now c.args.set ≤ heaviest
light c = sum_most 24 _ _ 4294967295 (λ k u. omega (arith, c.fits-weights k))

pub loop-k-init : goal.loop-k-init
loop-k-init c = rw (c.into_iter-k-iterator.ensures.into_iter_gives, c.members-k-items.ensures) (summed_start (search rules))

pub offset_bounds-weights-k : goal.offset_bounds-weights-k
offset_bounds-weights-k c = omega (arith, visit_low c.loop-k.invariant.visit c.in-Some.ensures.steps 24 c.requires)

pub bounds-weights-k : goal.bounds-weights-k
bounds-weights-k c = visit_low c.loop-k.invariant.visit c.in-Some.ensures.steps 24 c.requires

pub overflow_add-sum : goal.overflow_add-sum
overflow_add-sum c =
    omega (arith, c.wide-sum.ensures.0, summed_fits c.loop-k.invariant c.in-Some.ensures.steps refl 24 c.requires, light (goal.at.overflow_add-sum c).Start)

pub loop-k-preserved : goal.loop-k-preserved
loop-k-preserved c = summed_next c.loop-k.invariant c.in-Some.ensures.steps c.wide-sum.ensures.0

pub returns : goal.returns
returns c =
    let e = summed_end c.loop-k.invariant c.in-None.ensures.steps.0 24 c.requires in
    (e, omega (arith, e, light (goal.at.returns c).Start))
