-- A placement without fault, in terms of the tick run.
use Rattle.std.specs.Prelude.{List, ℕ}
use Rattle.table.specs.declared.Table.{Table}
use Rattle.schedule.specs.Periodic.{LateSet}
use Rattle.timing.specs.Timing.{tasks_in}
use Rattle.rules.specs.Placement.{placed}
use Rattle.rules.specs.Rules.{Keeps}
use Rattle.judge.specs.Judge.{PlacementOf}

-- 01: it keeps the placement rules and has no late job
pub record Good (t : Table) (q : List ℕ) : Type 0 where
  pub placement : PlacementOf t q
  pub keeps : Keeps t (placed q)
  pub in_time : (p : ℕ) → LateSet (tasks_in t) (λ k. placed q k p) → ⊥
