-- The placements with the task on an earlier processor are settled; the good placement at hand says that one takes it.
use mathlib.Core.Path.{◌≡◌}
use Prim.Native.Nat.{◌-◌, ◌≤◌}
use lib.ListN.{length}
use Rattle.region.specs.Given.{Gives}
use Rattle.bound_cache.specs.BoundCache.{Learnt}
use Rattle.first.specs.First.{Placing}
use Rattle.first.proofs.Placing.{Passing}
use Rattle.first.proofs.+first.Given as goal

abbrev pub invariant-loop-p : goal.invariant-loop-p
invariant-loop-p l =
    (l.p ≤ l.instance.sizes.processors) × (length l.list ≡ length l.initial.list)
    × Gives l.instance (λ t. Placing t l.s l.k l.witness l.initial.list l.initial.at.count) (λ t. Learnt t l.instance.rows l.initial.caches.lateness l.initial.caches.bounds)
    (λ t. Passing t l.s l.k l.witness l.initial.list l.initial.at l.p l.list l.at × Learnt t l.instance.rows l.caches.lateness l.caches.bounds)

abbrev pub decreases-first : goal.decreases-first
decreases-first l = l.instance.now.sizes.tasks - l.k
