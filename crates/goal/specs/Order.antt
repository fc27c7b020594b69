-- The placements of n tasks on m processors, numbered in the order of 01, "The search answer". Assumes nothing.
use Rattle.std.specs.Prelude.{Bool, List, [], ◌∷◌, ℕ, zero, suc, ◌/◌, ◌%◌, ◌^◌, ◌<◌, T, get_or}
use Rattle.rules.specs.Placement.{placed}

-- 01: of two placements the earlier is the one with the lower processor at the first task in which they differ;
-- here e is earlier than the placement that has each task where `on` says
pub record EarlierThan (on : ℕ → ℕ → Bool) (e : List ℕ) : Type 0 where
  pub task : ℕ
  pub same : (j : ℕ) → j < task → T (on j (get_or e j 0))
  pub processor : ℕ
  pub stands : T (on task processor)
  pub lower : get_or e task 0 < processor

-- of two lists of bytes, the one and the other
pub record Earlier (e q : List ℕ) : Type 0 where
  pub than : EarlierThan (placed q) e

-- placement number i of the m ^ n: its processors are the digits of i to the base m, task 0's first. Smaller numbers are earlier (proofs/Numbers).
unfoldable pub placement_at : ℕ → ℕ → ℕ → List ℕ
placement_at zero m i = []
placement_at (suc n) m i = i / m ^ n ∷ placement_at n m (i % m ^ n)
