-- The capacity bound: how much of the open tasks' weight each processor can take at most.
use Rattle.std.specs.Prelude.{◌≡◌, Bool, List, ℕ, ◌-◌, ◌≤◌, ◌<◌, T, get_or}
use Rattle.mask.specs.Mask.{below, Subset}
use Rattle.table.specs.declared.Table.{Table}
use Rattle.rules.specs.Sets.{standing}
use Rattle.timing.specs.Timing.{tasks_in}
use Rattle.rows.specs.Rows.{loads_of, exclusions_of, weights_in}
use Rattle.partial.specs.declared.State.{State}
use Rattle.partial.specs.Partial.{Fits}
use Rattle.nogoods.specs.declared.Mode.{Mode}
use Rattle.nogoods.specs.Nogoods.{Nogoods, Extended, Bad}
use Rattle.region.specs.Region.{Within, Met}
use Rattle.region.specs.Begins.{Eligible}
use Rattle.candidates.specs.Candidates.{Choices}
use Rattle.knapsack.specs.Knapsack.{weight_of, Takes}
use Rattle.subgradient.specs.Subgradient.{heaviest}
use Rattle.capacity_bound.specs.declared.Tightened.{Tightened}
use Rattle.rows.specs.declared.Rows.{Rows}
use Rattle.rows.specs.declared.Measure.TheVariants.{Load, Memory, Other}
use Rattle.knapsack.specs.declared.Weighting.{Weighting}

-- the weights are those of the rows by their measure; others may be any
abbrev pub Weights : Rows → Weighting → Type 0
Weights rows weighting = (weighting.measure ≡ Other → ⊥) → weighting.weights ≡ weights_in rows weighting.measure

-- how many calls each packing may use
abbrev pub packing_fuel : ℕ
packing_fuel = 20000

-- how many of them it took where so many are left
abbrev pub calls_of : ℕ → ℕ
calls_of left = packing_fuel - left

-- r bounds the weight of the sets x of candidates that weigh no more than what is left of the load, where that is weighed, or of the memory, where that is
pub record TopAs (weighting : Weighting) (set space spare r : ℕ) : Type 0 where
  pub small : r ≤ heaviest
  pub bounds : (n : ℕ) → T (below n set) → (x : ℕ) → Subset x set → (weighting.measure ≡ Load → weight_of n weighting.weights x ≤ spare) → (weighting.measure ≡ Memory → weight_of n weighting.weights x ≤ space)
      → weight_of n weighting.weights x ≤ r

-- processor r can take whatever p can
pub record Covers (s : State) (sets : List ℕ) (r p : ℕ) : Type 0 where
  pub same_on : get_or s.on p 0 ≡ get_or s.on r 0
  pub same_set : get_or sets p 0 ≡ get_or sets r 0
  pub memory : get_or s.memory p 0 ≤ get_or s.memory r 0
  pub load : get_or s.load p 0 ≤ get_or s.load r 0

-- the candidates x can join the tasks on p
pub record Joins (t : Table) (s : State) (B : (ℕ → Bool) → Type 0) (sets : List ℕ) (p x : ℕ) : Type 0 where
  pub inside : Subset x (get_or sets p 0)
  pub takes : Takes t.tasks.count t.tasks.memory (exclusions_of t) (loads_of t) B (get_or s.on p 0) (get_or s.memory p 0) (get_or s.load p 0) x

-- top bounds the weight of what can join the tasks on p
abbrev pub Bounds : Table → State → ((ℕ → Bool) → Type 0) → List ℕ → List ℕ → ℕ → ℕ → Type 0
Bounds t s B weights sets p top = (x : ℕ) → Joins t s B sets p x → weight_of t.tasks.count weights x ≤ top

-- such a bound for each processor, small enough for a sum of them
pub record Tops (t : Table) (s : State) (B : (ℕ → Bool) → Type 0) (weights sets tops : List ℕ) : Type 0 where
  pub small : (p : ℕ) → get_or tops p 0 ≤ heaviest
  pub bounds : (p : ℕ) → p < t.processors.count → Bounds t s B weights sets p (get_or tops p 0)

-- what the capacity bound begins with: a state and the list of conflicts so far, and all candidates of each processor
pub record Weighable (t : Table) (mode : Mode) (s : State) (sets list : List ℕ) (count : ℕ) : Type 0 where
  pub fits : Fits t s
  pub nogoods : Nogoods (tasks_in t) list count
  pub choices : Choices t s (Bad (tasks_in t) mode.listing list count) sets

-- what a tighter bound begins with: a state and the list of conflicts so far, candidates for each processor, and a bound for each
pub record Topped (t : Table) (mode : Mode) (s : State) (weights sets tops list : List ℕ) (count : ℕ) : Type 0 where
  pub fits : Fits t s
  pub nogoods : Nogoods (tasks_in t) list count
  pub eligible : (p : ℕ) → p < t.processors.count → Eligible t s p (get_or sets p 0)
  pub holds : Tops t s (Bad (tasks_in t) mode.listing list count) weights sets tops

-- a bound for p that is no larger than before
pub record TightAs (t : Table) (mode : Mode) (s : State) (weights sets tops : List ℕ) (p : ℕ) (old : List ℕ) (before : ℕ) (new : List ℕ) (r : Tightened) : Type 0 where
  pub list : Extended (Met t (Within (standing s.on))) (tasks_in t) old before new r.count
  pub no_more : r.most ≤ get_or tops p 0
  pub bounds : Bounds t s (Bad (tasks_in t) mode.listing new r.count) weights sets p r.most
