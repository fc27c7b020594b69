-- Conflicts: late sets of tasks, and the minimal ones (01, "Response and run" and "The search answer"). Assumes nothing.
use Rattle.std.specs.Prelude.{◌≡◌, Bool, true, false, ◌&&◌, ℕ, T}
use Rattle.finite.specs.Finite.{some_below}
use Rattle.mask.specs.Mask.{has, Subset, remove_of}
use Rattle.schedule.specs.Periodic.{Tasks, LateSet}
use Rattle.schedule.specs.Response.{late_test}
use Rattle.conflict.specs.declared.Finding.{Finding}
use Rattle.conflict.specs.declared.Finding.TheVariants.{NoConflict, NotMinimal, MinimalConflict}

-- with this task left out the set is not late
abbrev pub Needed : Tasks → ℕ → ℕ → Type 0
Needed s set k = T (has set k) → LateSet s (has (remove_of set k)) → ⊥

-- 01: a conflict is a late set; it is minimal if it is not late with any one task left out
pub record Minimal (s : Tasks) (set : ℕ) : Type 0 where
  pub late : LateSet s (has set)
  pub needed : (k : ℕ) → Needed s set k

-- 01: a conflict check answers 0 no conflict, 1 late but not minimal, 2 minimal
abbrev pub finding_number : Finding → ℕ
finding_number NoConflict = 0
finding_number NotMinimal = 1
finding_number MinimalConflict = 2

-- what each finding says of the set, in the tick run
abbrev pub Right : Tasks → ℕ → Finding → Type 0
Right s set NoConflict = LateSet s (has set) → ⊥
Right s set NotMinimal = LateSet s (has set) × (Minimal s set → ⊥)
Right s set MinimalConflict = Minimal s set

-- the finding by the responses: is the set late, and is it late with some task left out
abbrev pub pick_finding : Bool → Bool → Finding
pick_finding false smaller = NoConflict
pick_finding true true = NotMinimal
pick_finding true false = MinimalConflict

abbrev pub smaller_late : Tasks → ℕ → Bool
smaller_late s set = some_below s.count (λ k. has set k && late_test s (has (remove_of set k)))

abbrev pub finding_of : Tasks → ℕ → Finding
finding_of s set = pick_finding (late_test s (has set)) (smaller_late s set)

-- the answer of a conflict check: by the responses, and right of the tick run
pub record Checked (s : Tasks) (set : ℕ) (r : Finding) : Type 0 where
  pub value : r ≡ finding_of s set
  pub right : Right s set r

-- a minimal conflict within the set
pub record MinimalWithin (s : Tasks) (set r : ℕ) : Type 0 where
  pub inside : Subset r set
  pub minimal : Minimal s r
