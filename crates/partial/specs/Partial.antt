-- A partial placement as the search holds it: the set of tasks on each processor, the open tasks, and what each processor and the network have left.
use Rattle.std.specs.Prelude.{◌≡◌, Option, Some, None, List, ℕ, ◌+◌, ◌*◌, ◌/◌, ◌<◌, T, length, get_or}
use Rattle.mask.specs.Mask.{has, remove_of}
use Rattle.table.specs.declared.Table.{Table}
use Rattle.table.specs.Sound.{Sound}
use Rattle.rules.specs.Placement.{and_task}
use Rattle.rules.specs.Rules.{Keeps, memory_on, load_on, traffic}
use Rattle.rules.specs.Sets.{standing}
use Rattle.rows.specs.Rows.{loads_of, amounts_of, exclusions_of, partners_of}
use Rattle.partial.specs.declared.State.{State}
use Rattle.partial.specs.declared.Sizes.{Sizes}
use Rattle.partial.specs.declared.Site.{Site}
use Rattle.rows.specs.declared.Rows.{Rows}
use Rattle.rows.specs.declared.Messages.{Messages}

-- the table whose rows are lent to the search
pub record Lent (t : Table) (sizes : Sizes) (rows : Rows) (links : Messages) : Type 0 where
  pub sound : Sound t
  pub tasks : sizes.tasks ≡ t.tasks.count
  pub processors : sizes.processors ≡ t.processors.count
  pub messages : sizes.messages ≡ t.messages.count
  pub same_residence : rows.residence ≡ t.tasks.residence
  pub same_memory : rows.memory ≡ t.tasks.memory
  pub same_loads : rows.load ≡ loads_of t
  pub same_exclusions : rows.exclusions ≡ exclusions_of t
  pub same_partners : rows.partners ≡ partners_of t
  pub same_sender : links.sender ≡ t.messages.sender
  pub same_receiver : links.receiver ≡ t.messages.receiver
  pub same_amounts : links.amount ≡ amounts_of t

-- tasks of the table on its processors, none on two of them
pub record Partial (t : Table) (sets : List ℕ) : Type 0 where
  pub long : length sets ≡ 8
  pub task : (k p : ℕ) → T (standing sets k p) → k < t.tasks.count
  pub processor : (k p : ℕ) → T (standing sets k p) → p < t.processors.count
  pub once : (k p r : ℕ) → T (standing sets k p) → T (standing sets k r) → p ≡ r

-- every task stands on a processor
pub record Whole (t : Table) (sets : List ℕ) : Type 0 where
  pub partial : Partial t sets
  pub somewhere : (k : ℕ) → k < t.tasks.count → (p : ℕ) × T (standing sets k p)

-- a state of the search: a partial placement that keeps the rules, the tasks that it leaves open, and what is left of memory, load and network
pub record Fits (t : Table) (s : State) : Type 0 where
  pub partial : Partial t s.on
  pub keeps : Keeps t (standing s.on)
  pub open_task : (k : ℕ) → T (has s.left k) → (k < t.tasks.count) × ((p : ℕ) → T (standing s.on k p) → ⊥)
  pub placed_task : (k : ℕ) → k < t.tasks.count → (T (has s.left k) → ⊥) → (p : ℕ) × T (standing s.on k p)
  pub memory_long : length s.memory ≡ 8
  pub memory : (p : ℕ) → p < t.processors.count → get_or s.memory p 0 + memory_on t (standing s.on) p ≡ get_or t.processors.memory p 0
  pub load_long : length s.load ≡ 8
  pub load : (p : ℕ) → p < t.processors.count → get_or s.load p 0 + load_on t (standing s.on) p ≡ get_or t.processors.limit p 0 * t.hyperperiod / 1000
  pub traffic : s.traffic + traffic t (standing s.on) ≡ t.capacity * t.hyperperiod

-- processor p as a task finds it in a state
abbrev pub site_of : State → ℕ → Site
site_of s p = record { on = get_or s.on p 0; left = s.left; memory = get_or s.memory p 0; load = get_or s.load p 0; traffic = s.traffic }

-- the state with the open task k on processor p
pub record Stepped (t : Table) (s : State) (k p : ℕ) (r : State) : Type 0 where
  pub fits : Fits t r
  pub on : standing r.on ≡ and_task (standing s.on) k p
  pub left : r.left ≡ remove_of s.left k

-- the answer of a step: the rules would be broken, or they are kept and this is the state
abbrev pub StepOf : Table → State → ℕ → ℕ → Option State → Type 0
StepOf t s k p None = Keeps t (and_task (standing s.on) k p) → ⊥
StepOf t s k p (Some next) = Stepped t s k p next
