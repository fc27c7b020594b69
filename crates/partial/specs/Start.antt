-- The state that a search begins with: the empty placement.
use Rattle.std.specs.Prelude.{true, ℕ, ◌*◌, ◌/◌, T, get_or, replicate}
use Rattle.mask.specs.Mask.{mask_of}
use Rattle.table.specs.declared.Table.{Table}
use Rattle.table.specs.Table.{column}
use Rattle.rules.specs.Sets.{standing}
use Rattle.partial.specs.declared.State.{State}
use Rattle.partial.specs.Partial.{Fits}

-- the state that a search begins with: every task is open and may stand anywhere, and nothing is taken of a processor's memory and load and of the network;
-- zeros beyond the processors, but for the tasks that may stand there.
-- 01: the limit is in thousandths of H.
unfoldable pub start_of : Table → State
start_of t = record {
  on = replicate 8 0;
  left = mask_of t.tasks.count (λ k. true);
  may = replicate 8 (mask_of t.tasks.count (λ k. true));
  memory = column 8 t.processors.count (λ p. get_or t.processors.memory p 0);
  load = column 8 t.processors.count (λ p. get_or t.processors.limit p 0 * t.hyperperiod / 1000);
  traffic = t.capacity * t.hyperperiod;
}

-- nothing is placed
pub record Started (t : Table) (r : State) : Type 0 where
  pub fits : Fits t r
  pub nothing : (k p : ℕ) → T (standing r.on k p) → ⊥
