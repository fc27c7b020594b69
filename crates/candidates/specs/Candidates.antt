-- Which open tasks each processor can take.
use Rattle.std.specs.Prelude.{◌≡◌, Bool, true, false, List, ℕ, ◌<◌, T, get_or}
use Rattle.mask.specs.Mask.{has}
use Rattle.table.specs.declared.Table.{Table}
use Rattle.rules.specs.Placement.{placed}
use Rattle.rules.specs.Rules.{Keeps}
use Rattle.rules.specs.Sets.{standing}
use Rattle.timing.specs.Timing.{tasks_in}
use Rattle.judge.specs.Judge.{PlacementOf}
use Rattle.partial.specs.declared.State.{State}
use Rattle.nogoods.specs.declared.Mode.{Mode}
use Rattle.nogoods.specs.Nogoods.{Extended, Bad}
use Rattle.region.specs.Region.{Within, Met}
use Rattle.region.specs.Begins.{Eligible}
use Rattle.candidates.specs.declared.Joining.{Joining}
use Rattle.candidates.specs.declared.Chosen.{Chosen}
use Rattle.candidates.specs.declared.Candidates.{Candidates}

-- a placement of the region that keeps the rules, none of whose sets is of the kind B
pub record Fair (t : Table) (s : State) (B : (ℕ → Bool) → Type 0) (q : List ℕ) : Type 0 where
  pub whole : PlacementOf t q
  pub inside : Within (standing s.on) q
  pub keeps : Keeps t (placed q)
  pub clear : (p : ℕ) → p < t.processors.count → B (λ k. placed q k p) → ⊥

-- what the test of the open task k on processor p leaves: it may reside there, or no fair placement has it there
pub record JoinsAs (t : Table) (mode : Mode) (s : State) (k p : ℕ) (old : List ℕ) (before : ℕ) (new : List ℕ) (r : Joining) : Type 0 where
  pub list : Extended (Met t (Within (standing s.on))) (tasks_in t) old before new r.count
  pub able : r.able ≡ true → T (has (get_or t.tasks.residence k 0) p)
  pub unable : r.able ≡ false → (q : List ℕ) → Fair t s (Bad (tasks_in t) mode.listing new r.count) q → T (placed q k p) → ⊥

-- open tasks that may reside on p, and all that a fair placement has there are among them
pub record Choice (t : Table) (s : State) (B : (ℕ → Bool) → Type 0) (p set : ℕ) : Type 0 where
  pub eligible : Eligible t s p set
  pub complete : (q : List ℕ) → Fair t s B q → (k : ℕ) → T (has s.left k) → T (placed q k p) → T (has set k)

-- what the tests of all open tasks on p leave: the list, and the candidates of p
pub record ChosenAs (t : Table) (mode : Mode) (s : State) (p : ℕ) (old : List ℕ) (before : ℕ) (new : List ℕ) (r : Chosen) : Type 0 where
  pub list : Extended (Met t (Within (standing s.on))) (tasks_in t) old before new r.count
  pub choice : Choice t s (Bad (tasks_in t) mode.listing new r.count) p r.set

-- the candidates of each processor
abbrev pub Choices : Table → State → ((ℕ → Bool) → Type 0) → List ℕ → Type 0
Choices t s B sets = (p : ℕ) → p < t.processors.count → Choice t s B p (get_or sets p 0)

-- what the tests for all processors leave: the list, and the candidates of each
pub record CandidatesAs (t : Table) (mode : Mode) (s : State) (old : List ℕ) (before : ℕ) (new : List ℕ) (r : Candidates) : Type 0 where
  pub list : Extended (Met t (Within (standing s.on))) (tasks_in t) old before new r.count
  pub choices : Choices t s (Bad (tasks_in t) mode.listing new r.count) r.sets
