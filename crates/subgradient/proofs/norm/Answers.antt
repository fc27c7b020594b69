-- The sum is that of the members that have come.
use mathlib.Core.Path.{refl}
use Prim.Native.Nat.{◌*◌, ◌≤◌}
use native.Mathlib.Omega.{arith}
use borrow.Author.Rules.{rules}
use Rattle.mask.proofs.Visit.{visit_low}
use Rattle.mask.proofs.Summed.{summed_start, summed_fits, summed_next, summed_end}
use Rattle.mask.proofs.Laws.{below_has, sum_most}
use Rattle.subgradient.specs.Subgradient.{norm_of}
use Rattle.subgradient.proofs.Laws.{square, square_small}
use Rattle.subgradient.proofs.norm.Goals as goal
use Rattle.subgradient.proofs.norm.Goals.{Start, In-Some}

short : (c : Start) → norm_of c.args.direction c.args.left ≤ 24 * 3211264
short c = let z = c.requires in sum_most 24 _ _ 3211264 (λ k u. square_small _ z.1 k (below_has 24 _ z.0 k u))

small : (c : In-Some) → square c.args.direction c.in-Some.k ≤ 3211264
small c = let z = c.requires in square_small _ z.1 _ (visit_low c.loop-k.invariant.visit c.in-Some.ensures.steps 24 z.0)

pub loop-k-init : goal.loop-k-init
loop-k-init c = rw (c.into_iter-k-iterator.ensures.into_iter_gives, c.members-k-items.ensures) (summed_start (search rules))

pub offset_bounds-direction-k : goal.offset_bounds-direction-k
offset_bounds-direction-k c = omega (arith, visit_low c.loop-k.invariant.visit c.in-Some.ensures.steps 24 c.requires.0)

pub bounds-direction-k : goal.bounds-direction-k
bounds-direction-k c = visit_low c.loop-k.invariant.visit c.in-Some.ensures.steps 24 c.requires.0

pub overflow_mul-sum : goal.overflow_mul-sum
overflow_mul-sum c = rw c.distance-d.ensures (omega (arith, small (goal.at.overflow_mul-sum c).In-Some))

pub overflow_add-sum : goal.overflow_add-sum
overflow_add-sum c =
    let s = c.in-Some.ensures.steps in
    rw c.distance-d.ensures (omega (arith, summed_fits c.loop-k.invariant s refl 24 c.requires.0, short (goal.at.overflow_add-sum c).Start))

pub loop-k-preserved : goal.loop-k-preserved
loop-k-preserved c = rw c.distance-d.ensures (summed_next c.loop-k.invariant c.in-Some.ensures.steps refl)

pub returns : goal.returns
returns c = summed_end c.loop-k.invariant c.in-None.ensures.steps.0 24 c.requires.0
