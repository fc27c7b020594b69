-- What the functions of the search for the first placement begin with, and what they leave.
use Rattle.std.specs.Prelude.{◌≡◌, Bool, false, Option, Some, None, List, ℕ, ◌≤◌, ◌<◌, T}
use Rattle.mask.specs.Mask.{has}
use Rattle.table.specs.declared.Table.{Table}
use Rattle.schedule.specs.Periodic.{LateSet}
use Rattle.rules.specs.Placement.{and_task}
use Rattle.rules.specs.Sets.{standing}
use Rattle.timing.specs.Timing.{tasks_in}
use Rattle.nogoods.specs.Nogoods.{Nogoods, Covered}
use Rattle.partial.specs.declared.State.{State}
use Rattle.partial.specs.Partial.{Fits}
use Rattle.goal.specs.Order.{EarlierThan}
use Rattle.region.specs.Region.{Within, Refuted, Witness, Settled}
use Rattle.restarts.specs.declared.Listed.{Listed}
use Rattle.first.specs.declared.Tried.{Tried}
use Rattle.first.specs.declared.Reached.{Reached}

-- the set has no late job
abbrev pub InTime : Table → (ℕ → Bool) → Type 0
InTime t x = LateSet (tasks_in t) x → ⊥

-- the tasks below k are placed, and a good placement, `witness`, has them there
pub record Placing (t : Table) (s : State) (k : ℕ) (witness list : List ℕ) (count : ℕ) : Type 0 where
  pub fits : Fits t s
  pub nogoods : Nogoods (tasks_in t) list count
  pub good : Witness t (InTime t) (standing s.on) witness
  pub upto : k ≤ t.tasks.count
  pub open_from : (j : ℕ) → k ≤ j → j < t.tasks.count → T (has s.left j)
  pub placed_below : (j : ℕ) → j < k → T (has s.left j) → ⊥

-- the processors below p were passed over for task k: no placement with it there is good, and unless the list is cut each that keeps the rules holds a listed conflict
pub record PassedBelow (t : Table) (s : State) (k p : ℕ) (list : List ℕ) (listed : Listed) : Type 0 where
  pub refuted : (q : ℕ) → q < p → Refuted t (LateSet (tasks_in t)) (Within (and_task (standing s.on) k q))
  pub covered : (q : ℕ) → q < p → listed.cut ≡ false → Refuted t (Covered list listed.count) (Within (and_task (standing s.on) k q))

-- what the try of processor p begins with
pub record Trying (t : Table) (s : State) (k p : ℕ) (witness list : List ℕ) (listed : Listed) : Type 0 where
  pub placing : Placing t s k witness list listed.count
  pub passed : PassedBelow t s k p list listed

-- what a search begins with
abbrev pub nothing : Listed
nothing = record { cut = false; count = 0 }

-- from one list to another, a region is settled
abbrev pub SettledBy : Table → (List ℕ → Type 0) → List ℕ → Listed → List ℕ → Listed → Type 0
SettledBy t P old before new after = Settled t P old before.count before.cut new after.count after.cut

-- task k on processor p: taken, since a good placement has it there; or every placement that has it there is settled
abbrev pub TriesAs : Option (List ℕ) → Table → State → ℕ → ℕ → List ℕ → List ℕ → Listed → List ℕ → Listed → Type 0
TriesAs (Some sets) t s k p witness old before new listed = (new ≡ old) × (listed ≡ before) × Witness t (InTime t) (and_task (standing s.on) k p) sets
TriesAs None t s k p witness old before new listed = SettledBy t (Within (and_task (standing s.on) k p)) old before new listed × (T (standing witness k p) → ⊥)

abbrev pub TriedAs : Table → State → ℕ → ℕ → List ℕ → List ℕ → Listed → List ℕ → Tried → Type 0
TriedAs t s k p witness old before new r = TriesAs r.placement t s k p witness old before new r.listed

-- the first good placement with the tasks where the state has them, and every earlier one settled
pub record FirstOf (t : Table) (s : State) (old : List ℕ) (before : Listed) (new : List ℕ) (r : Reached) : Type 0 where
  pub good : Witness t (InTime t) (standing s.on) r.on
  pub settled : SettledBy t (λ e. Within (standing s.on) e × EarlierThan (standing r.on) e) old before new r.listed
