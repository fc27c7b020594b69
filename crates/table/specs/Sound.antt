-- All that is known of a table that was read (01, "The table file").
use Rattle.std.specs.Prelude.{◌≡◌, ◌≢◌, List, ℕ, ◌^◌, ◌≤◌, ◌<◌, get_or, length}
use Rattle.mask.specs.Mask.{cardinality}
use Rattle.lcm.specs.Lcm.{lcm_to}
use Rattle.table.specs.declared.Table.{Table}
use Rattle.table.specs.declared.Processors.{Processors}
use Rattle.table.specs.declared.Tasks.{Tasks}
use Rattle.table.specs.declared.Groups.{Groups}
use Rattle.table.specs.declared.Messages.{Messages}

-- an array of n numbers of so many bits, and zeros behind them
pub record Column (places n bits : ℕ) (l : List ℕ) : Type 0 where
  pub long : length l ≡ places
  pub fits : (j : ℕ) → get_or l j 0 < 2 ^ bits
  pub beyond : (j : ℕ) → n ≤ j → get_or l j 0 ≡ 0

pub record SoundProcessors (p : Processors) : Type 0 where
  pub some : 1 ≤ p.count
  pub most : p.count ≤ 8
  pub memory : Column 8 p.count 32 p.memory
  pub limit : Column 8 p.count 16 p.limit
  pub least_limit : (j : ℕ) → j < p.count → 1 ≤ get_or p.limit j 0
  pub most_limit : (j : ℕ) → j < p.count → get_or p.limit j 0 ≤ 1000

-- tasks that may reside on m processors
pub record SoundTasks (m : ℕ) (a : Tasks) : Type 0 where
  pub some : 1 ≤ a.count
  pub most : a.count ≤ 24
  pub c : Column 24 a.count 32 a.c
  pub t : Column 24 a.count 32 a.t
  pub d : Column 24 a.count 32 a.d
  pub memory : Column 24 a.count 32 a.memory
  pub priority : Column 24 a.count 16 a.priority
  pub residence : Column 24 a.count 16 a.residence
  pub works : (j : ℕ) → j < a.count → 1 ≤ get_or a.c j 0
  pub c_d : (j : ℕ) → j < a.count → get_or a.c j 0 ≤ get_or a.d j 0
  pub d_t : (j : ℕ) → j < a.count → get_or a.d j 0 ≤ get_or a.t j 0
  pub ticks : (j : ℕ) → j < a.count → get_or a.t j 0 ≤ 1000000
  pub distinct : (i j : ℕ) → i < a.count → j < a.count → get_or a.priority i 0 ≡ get_or a.priority j 0 → i ≡ j
  pub resides : (j : ℕ) → j < a.count → 0 < get_or a.residence j 0
  pub resides_below : (j : ℕ) → j < a.count → get_or a.residence j 0 < 2 ^ m

-- groups of two or more of n tasks
pub record SoundGroups (n : ℕ) (g : Groups) : Type 0 where
  pub most : g.count ≤ 16
  pub mask : Column 16 g.count 32 g.mask
  pub below : (j : ℕ) → j < g.count → get_or g.mask j 0 < 2 ^ n
  pub two : (j : ℕ) → j < g.count → 2 ≤ cardinality 32 (get_or g.mask j 0)

-- messages between tasks of equal periods
pub record SoundMessages (a : Tasks) (m : Messages) : Type 0 where
  pub most : m.count ≤ 64
  pub sender : Column 64 m.count 8 m.sender
  pub receiver : Column 64 m.count 8 m.receiver
  pub amount : Column 64 m.count 32 m.amount
  pub from_task : (j : ℕ) → j < m.count → get_or m.sender j 0 < a.count
  pub to_task : (j : ℕ) → j < m.count → get_or m.receiver j 0 < a.count
  pub apart : (j : ℕ) → j < m.count → get_or m.sender j 0 ≢ get_or m.receiver j 0
  pub periods : (j : ℕ) → j < m.count → get_or a.t (get_or m.sender j 0) 0 ≡ get_or a.t (get_or m.receiver j 0) 0
  pub least_amount : (j : ℕ) → j < m.count → 1 ≤ get_or m.amount j 0
  pub most_amount : (j : ℕ) → j < m.count → get_or m.amount j 0 ≤ 1000000
  pub distinct : (i j : ℕ) → i < m.count → j < m.count → get_or m.sender i 0 ≡ get_or m.sender j 0 → get_or m.receiver i 0 ≡ get_or m.receiver j 0 → i ≡ j

pub record Sound (t : Table) : Type 0 where
  pub capacity : t.capacity < 2 ^ 32
  pub processors : SoundProcessors t.processors
  pub tasks : SoundTasks t.processors.count t.tasks
  pub co : SoundGroups t.tasks.count t.co
  pub ex : SoundGroups t.tasks.count t.ex
  pub messages : SoundMessages t.tasks t.messages
  pub hyperperiod : t.hyperperiod ≡ lcm_to t.tasks.count (λ j. get_or t.tasks.t j 0)
  pub hyperperiod_most : t.hyperperiod ≤ 1000000000
