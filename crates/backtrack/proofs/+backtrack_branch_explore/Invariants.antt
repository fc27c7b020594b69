-- Every processor is passed over, one after the other from the first on; or the search ends at one of them. The tasks left fall with each call.
use mathlib.Core.Path.{◌≡◌}
use Prim.Native.Nat.{◌+◌, ◌*◌, ◌-◌, ◌≤◌}
use lib.ListN.{length}
use Rattle.region.specs.Begins.{Begins}
use Rattle.region.specs.Given.{Gives}
use Rattle.bound_cache.specs.BoundCache.{LearntOf}
use Rattle.backtrack.proofs.Backtracking.{Backtracking}
use Rattle.backtrack.proofs.+backtrack_branch_explore.Given as goal

abbrev pub invariant-branch-loop-i : goal.invariant-branch-loop-i
invariant-branch-loop-i l =
    (l.i ≤ l.instance.sizes.processors) × (length l.list ≡ length l.initial.list)
    × Gives l.instance (λ t. Begins t l.mode l.s l.initial.list l.initial.at) (λ t. LearntOf t l.initial.list l.initial.at l.instance.rows l.initial.caches.lateness l.initial.caches.bounds)
    (λ t. Backtracking t l.mode l.s l.k l.initial.list l.initial.at l.first l.instance.sizes.processors l.i l.list l.at × LearntOf t l.list l.at l.instance.rows l.caches.lateness l.caches.bounds)

abbrev pub decreases-branch : goal.decreases-branch
decreases-branch l = 3 * l.s.left + 1

abbrev pub decreases-explore : goal.decreases-explore
decreases-explore l = 3 * l.s.left

abbrev pub decreases-backtrack : goal.decreases-backtrack
decreases-backtrack l = 3 * l.s.left + 2
