-- What the head of the answer is known to be.
use Rattle.std.specs.Prelude.{◌≡◌, Option, Some, None, List, ℕ}
use Rattle.table.specs.declared.Table.{Table}
use Rattle.rules.specs.Placement.{placed}
use Rattle.rules.specs.Sets.{standing}
use Rattle.judge.specs.Judge.{PlacementOf}
use Rattle.answer.specs.Answer.{found_head, none_head}
use Rattle.goal.specs.Goal.{head_of}
use Rattle.partial.specs.Partial.{Whole}

-- the head of the answer is known: by the sets of the placement, or that there is none
abbrev pub HeadBy : Table → Option (List ℕ) → Type 0
HeadBy t (Some sets) = Whole t sets × ((q : List ℕ) → PlacementOf t q → placed q ≡ standing sets → head_of t ≡ found_head q)
HeadBy t None = head_of t ≡ none_head t.tasks.count
