-- The processors' bounds are made tighter one after the other; their sum is known at each step.
use mathlib.Core.Path.{◌≡◌}
use Prim.Native.Nat.{◌-◌, ◌*◌, ◌≤◌}
use lib.ListN.{length, get_or}
use Rattle.finite.specs.Finite.{sum_to}
use Rattle.region.specs.Given.{Gives}
use Rattle.bound_cache.specs.BoundCache.{LearntOf}
use Rattle.capacity_bound.specs.CapacityBound.{packing_fuel, Weighable}
use Rattle.capacity_bound.proofs.Tightening.{Tightening}
use Rattle.capacity_bound.proofs.weigh.Given as goal

abbrev pub invariant-loop-p : goal.invariant-loop-p
invariant-loop-p l =
    (l.p ≤ l.m) × (length l.tops ≡ 8) × (l.sum ≡ sum_to l.m (λ r. get_or l.tops r 0)) × (length l.list ≡ length l.initial.list)
    × Gives l.instance (λ t. Weighable t l.mode l.s l.sets l.initial.list l.count) (λ t. LearntOf t l.initial.list l.count l.instance.rows l.initial.caches.lateness l.initial.caches.bounds)
    (λ t. Tightening t l.mode l.s l.weighting.weights l.sets l.initial.list l.count l.tops l.list l.listed × LearntOf t l.list l.listed l.instance.rows l.caches.lateness l.caches.bounds)
    × (length l.found ≡ 8) × (l.calls ≤ packing_fuel * l.p)

abbrev pub decreases-loop-p : goal.decreases-loop-p
decreases-loop-p l = l.m - l.p
