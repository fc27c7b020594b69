-- The places below k hold their directions.
use Prim.Native.Nat.{ℕ, ◌≤◌}
use mathlib.Core.List.{List}
use mathlib.Core.Bool.{Bool}
use lib.ListN.{get_or}
use Rattle.subgradient.specs.Subgradient.{direction_from}
use Rattle.finite.proofs.Filling.{Filled}
use Rattle.subgradient.proofs.direction.Given as goal

abbrev pub new : Bool → List ℕ → List ℕ → ℕ → ℕ
new first before counts k = direction_from first (get_or before k 0) (get_or counts k 0)

abbrev pub invariant-loop-k : goal.invariant-loop-k
invariant-loop-k l = (l.k ≤ 24) × Filled 24 (new l.first l.before l.counts) 0 l.k l.next
