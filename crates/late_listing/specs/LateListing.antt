-- When the conflicts of a region are listed by the recursion over the late sets. All of it is a heuristic: no answer rests on it.
use Rattle.std.specs.Prelude.{◌≡◌, ◌⊎◌, Bool, true, false, ◌&&◌, cond, Option, Some, None, is_none, List, ℕ, ◌+◌, ◌-◌, ◌*◌, ◌/◌, eqb, ltb, leb, get_or, replicate}
use Rattle.mask.specs.Mask.{mask_of}
use Rattle.table.specs.Table.{column}
use Rattle.partial.specs.declared.State.{State}
use Rattle.partial.specs.declared.Sizes.{Sizes}
use Rattle.subgradient.specs.Subgradient.{total_of}
use Rattle.heuristics.specs.declared.Heuristics.{Heuristics}
use Rattle.heuristics.specs.Heuristics.{tried_noted, listing_noted}
use Rattle.late_sets.specs.declared.Covering.{Covering}
use Rattle.rows.specs.declared.Rows.{Rows}

-- what processor p has of a resource where no task is placed: what is left, and what the tasks on it take
abbrev pub whole_of : List ℕ → State → List ℕ → ℕ → ℕ
whole_of row s left p = get_or left p 0 + total_of row (get_or s.on p 0)

-- the state with no task placed, apart from the network and from what may stand on the processors
unfoldable pub emptied_of : Rows → Sizes → State → State
emptied_of rows sizes s = record {
  on = replicate 8 0;
  left = mask_of sizes.tasks (λ k. true);
  may = s.may;
  memory = column 8 sizes.processors (whole_of rows.memory s s.memory);
  load = column 8 sizes.processors (whole_of rows.load s s.load);
  traffic = s.traffic;
}

-- 100 steps for each node, to a limit
abbrev pub steps_for : ℕ → ℕ
steps_for n = cond (leb 40000000 n) 4000000000 (100 * n)

-- it is not known whether all late sets have a place, and there were more than twice as many nodes as when that was tried last
abbrev pub worth_a_try : Heuristics → Bool
worth_a_try h = is_none h.guide.listing && ltb h.guide.tried (h.guide.nodes / 2)

-- what a listing of all late sets tells of so many places: whether they suffice; nothing, where there were too few steps to tell
abbrev pub finding_of : Covering → ℕ → Option Bool
finding_of c places = cond c.complete (Some (leb c.count places)) (cond (eqb c.steps 0) None (Some false))

-- the heuristics with a finding noted, or else with the nodes after which it was tried
abbrev pub found_noted : Heuristics → Option Bool → Heuristics
found_noted h None = tried_noted h h.guide.nodes
found_noted h (Some all) = listing_noted h all

-- the heuristics once a listing of all late sets was tried
abbrev pub examined : Heuristics → ℕ → Covering → Heuristics
examined h places c = found_noted h (finding_of c places)

-- the heuristics as they were, or with what was found out of the places of a list of so many bytes
abbrev pub Examines : Heuristics → ℕ → Heuristics → Type 0
Examines old bytes new = (new ≡ old) ⊎ ((c : Covering) × (new ≡ examined old ((bytes - 3) / 6) c))
