-- What the search knows of a region: of the placements that have a property P.
use Rattle.std.specs.Prelude.{◌≡◌, Bool, true, false, ◌⊎◌, List, ℕ, ◌<◌, T, get_or}
use Rattle.mask.specs.Mask.{has}
use Rattle.table.specs.declared.Table.{Table}
use Rattle.schedule.specs.Periodic.{LateSet}
use Rattle.rules.specs.Placement.{placed, Part}
use Rattle.rules.specs.Rules.{Keeps, residence_broken}
use Rattle.rules.specs.Sets.{standing}
use Rattle.timing.specs.Timing.{tasks_in}
use Rattle.judge.specs.Judge.{PlacementOf}
use Rattle.nogoods.specs.Nogoods.{Covered, full, Extended}
use Rattle.partial.specs.Partial.{Whole}

-- the placements that have each task where `on` has it
abbrev pub Within : (ℕ → ℕ → Bool) → List ℕ → Type 0
Within on q = Part on (placed q)

-- each placement of the region that keeps the rules has a processor whose tasks are a set of the kind B
abbrev pub Refuted : Table → ((ℕ → Bool) → Type 0) → (List ℕ → Type 0) → Type 0
Refuted t B P = (q : List ℕ) → PlacementOf t q → P q → Keeps t (placed q) → (p : ℕ) × B (λ k. placed q k p)

-- a placement of the region that keeps residence has all tasks of c on one processor
pub record Met (t : Table) (P : List ℕ → Type 0) (c : ℕ) : Type 0 where
  pub placement : List ℕ
  pub whole : PlacementOf t placement
  pub inside : P placement
  pub resides : (k : ℕ) → k < t.tasks.count → T (residence_broken t (placed placement) k) → ⊥
  pub processor : ℕ
  pub holds : (k : ℕ) → T (has c k) → T (placed placement k processor)

-- the sets are a whole placement in the region of `on` that keeps the rules, and each is of the kind C
pub record Witness (t : Table) (C : (ℕ → Bool) → Type 0) (on : ℕ → ℕ → Bool) (sets : List ℕ) : Type 0 where
  pub part : Part on (standing sets)
  pub whole : Whole t sets
  pub keeps : Keeps t (standing sets)
  pub clear : (p : ℕ) → C (has (get_or sets p 0))

-- a placement of the region that keeps the rules holds none of the listed conflicts
pub record Uncovered (t : Table) (P : List ℕ → Type 0) (list : List ℕ) (count : ℕ) : Type 0 where
  pub placement : List ℕ
  pub whole : PlacementOf t placement
  pub inside : P placement
  pub keeps : Keeps t (placed placement)
  pub holds_none : (p : ℕ) → Covered list count (λ k. placed placement k p) → ⊥

-- whether the list was found cut, before a region and after it: every placement of the region that keeps the rules holds a listed conflict,
-- or the list is full and one holds none
abbrev pub Marked : Table → (List ℕ → Type 0) → Bool → List ℕ → ℕ → Bool → Type 0
Marked t P before list count false = (before ≡ false) × Refuted t (Covered list count) P
Marked t P before list count true = (before ≡ true) ⊎ (T (full list count) × Uncovered t P list count)

-- a region without a good placement is dealt with: the list has grown by conflicts that it holds, and the mark is right
pub record Settled (t : Table) (P : List ℕ → Type 0) (old : List ℕ) (before : ℕ) (cut-before : Bool) (new : List ℕ) (count : ℕ) (cut : Bool) : Type 0 where
  pub refuted : Refuted t (LateSet (tasks_in t)) P
  pub list : Extended (Met t P) (tasks_in t) old before new count
  pub mark : Marked t P cut-before new count cut
