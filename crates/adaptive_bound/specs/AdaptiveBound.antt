-- The rows of weights in the heuristics.
use Rattle.std.specs.Prelude.{◌≡◌, List, ℕ, ◌+◌, set}
use Rattle.mask.specs.Mask.{cardinality}
use Rattle.heuristics.specs.declared.Heuristics.{Heuristics}
use Rattle.heuristics.specs.Heuristics.{root}

-- the row for a region with these open tasks
abbrev pub row_for : ℕ → ℕ
row_for left = cardinality 32 left

-- the heuristics with other weights in a row
abbrev pub with_weights : Heuristics → ℕ → List ℕ → Heuristics
with_weights h row best = record h { weights = set h.weights row best }

-- of the heuristics only this row of weights may have changed
abbrev pub OnlyRow : ℕ → Heuristics → Heuristics → Type 0
OnlyRow row before after = (best : List ℕ) × (after ≡ with_weights before row best)

-- only two rows may have changed, and both hold the same weights now: that of a whole decision, and the one that regions with one open task less begin with
abbrev pub OnlyRoot : ℕ → Heuristics → Heuristics → Type 0
OnlyRoot left before after = (best : List ℕ) × (after ≡ with_weights (with_weights before root best) (row_for left + 1) best)
