-- The places below k hold their scaled weights.
use mathlib.Core.List.{List}
use Prim.Native.Nat.{ℕ, ◌*◌, ◌/◌, ◌≤◌}
use lib.ListN.{get_or}
use Rattle.subgradient.specs.Subgradient.{limited}
use Rattle.finite.proofs.Filling.{Filled}
use Rattle.subgradient.proofs.scaled.Given as goal

abbrev pub new : List ℕ → ℕ → ℕ → ℕ
new weights total k = limited (get_or weights k 0 * 4194304 / total)

abbrev pub invariant-loop-k : goal.invariant-loop-k
invariant-loop-k l = (l.k ≤ 24) × Filled 24 (new l.weights l.total) 0 l.k l.next
