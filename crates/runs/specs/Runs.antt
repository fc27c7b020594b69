-- The runs of a decision: what is kept of the heuristics for a replay, and how many steps each run may take. No answer rests on them.
use Rattle.std.specs.Prelude.{Bool, ◌&&◌, cond, ℕ, ◌*◌, ◌/◌, ◌%◌, eqb, ltb}
use Rattle.heuristics.specs.declared.Heuristics.{Heuristics}

-- the heuristics with a copy of what guides the run
abbrev pub kept_of : Heuristics → Heuristics
kept_of heuristics = record heuristics { kept = heuristics.guide }

-- and with the copy brought back
abbrev pub brought_back_of : Heuristics → Heuristics
brought_back_of heuristics = record heuristics { guide = heuristics.kept }

-- the weights of the bound adapt in every second run from the third on
abbrev pub is_weighted : ℕ → Bool
is_weighted run = ltb 1 run && eqb (run % 2) 0

-- how many steps a run may take: half where the weights adapt, four times as many in the runs between
unfoldable pub share_of : ℕ → ℕ → ℕ
share_of steps run = cond (is_weighted run) (steps / 2) (cond (ltb run 2) steps (4 * steps))

-- what a run begins with
abbrev pub run_of : Heuristics → ℕ → ℕ → Heuristics
run_of heuristics steps run = record heuristics { guide = record heuristics.guide { fuel = share_of steps run; weighted = is_weighted run } }
