-- What may stand on each processor is worked out once. The fuel grows by half until it is at least 900,000, faster than the number of runs.
use Prim.Native.Nat.{◌-◌, ◌≤◌}
use Rattle.region.specs.Begins.{Prepared}
use Rattle.region.specs.Given.{Gives}
use Rattle.bound_cache.specs.BoundCache.{Learnt}
use Rattle.restarts.proofs.decide.Given as goal

abbrev pub invariant-loop-fuel : goal.invariant-loop-fuel
invariant-loop-fuel l =
    (300 ≤ l.fuel) × (l.fuel ≤ 1350000) × (l.run ≤ l.fuel)
    × Gives l.instance (λ t. Prepared t l.begin) (λ t. Learnt t l.instance.rows l.initial.caches.lateness l.initial.caches.bounds) (λ t. Learnt t l.instance.rows l.caches.lateness l.caches.bounds)

abbrev pub decreases-loop-fuel : goal.decreases-loop-fuel
decreases-loop-fuel l = 900000 - l.fuel
