-- When the bound is tried, and what is noted of it: its credit and its skips, and the weights that it adapts. No answer rests on them.
use Rattle.std.specs.Prelude.{◌≡◌, Bool, true, false, not, ◌&&◌, ◌||◌, cond, ℕ, ◌+◌, ◌-◌, ◌%◌, eqb, leb, ltb}
use Rattle.mask.specs.Mask.{cardinality}
use Rattle.heuristics.specs.declared.Heuristics.{Heuristics}
use Rattle.adaptive_bound.specs.AdaptiveBound.{row_for, OnlyRow}

-- the run is weighted: the weights of the bound adapt to the region
abbrev pub adapts : Heuristics → Bool
adapts heuristics = heuristics.guide.weighted

-- one skip more, of 32
abbrev pub skips_after : ℕ → ℕ
skips_after before = (before % 32 + 1) % 32

-- the bound pays: the run is weighted, or it has credit
abbrev pub pays : Heuristics → Bool
pays heuristics = adapts heuristics || not (eqb heuristics.guide.credit 0)

-- the bound is due: four tasks are open or more, and it pays or was skipped 31 times
abbrev pub is_due : ℕ → Heuristics → Bool
is_due left heuristics = leb 4 (cardinality 32 left) && (pays heuristics || eqb (skips_after heuristics.guide.skips) 0)

-- the heuristics once that was asked: where it does not pay, a skip counts
unfoldable pub asked_heuristics : ℕ → Heuristics → Heuristics
asked_heuristics left heuristics = cond (leb 4 (cardinality 32 left) && not (pays heuristics)) (record heuristics { guide = record heuristics.guide { skips = skips_after heuristics.guide.skips } }) heuristics

-- the credit after a try, one more than it, 0 where it is used up: a region that was given up counts for 24, up to 400; another costs 1
abbrev pub credit_after : ℕ → Bool → ℕ
credit_after before true = cond (ltb 377 before) 401 (before + 24)
credit_after before false = before - 1

-- the heuristics once a try is noted; in a weighted run nothing is
unfoldable pub tried_heuristics : Bool → Heuristics → Heuristics
tried_heuristics hopeless heuristics = cond (adapts heuristics) heuristics (record heuristics { guide = record heuristics.guide { credit = credit_after heuristics.guide.credit hopeless } })

-- the heuristics after the bound, but for the weights
unfoldable pub bound_heuristics : ℕ → Bool → Heuristics → Heuristics
bound_heuristics left hopeless heuristics = cond (is_due left heuristics) (tried_heuristics hopeless (asked_heuristics left heuristics)) (asked_heuristics left heuristics)

-- what the search for weights may change: in a weighted run the row for a region with these open tasks, else nothing
unfoldable pub AdaptedAs : Bool → ℕ → Heuristics → Heuristics → Type 0
AdaptedAs false left before after = after ≡ before
AdaptedAs true left before after = OnlyRow (row_for left) before after
