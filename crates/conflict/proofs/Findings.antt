-- The finding by the responses is right of the tick run, and no other is. Assumes nothing.
use mathlib.Core.Path.{◌≡◌, refl, sym, subst}
use mathlib.Core.Bool.{Bool, true, false, ◌&&◌}
use Prim.Native.Nat.{ℕ}
use lib.Dec.{T}
use Rattle.finite.proofs.Some.{some_intro, some_elim}
use Rattle.mask.specs.Mask.{has, below, remove_of}
use Rattle.mask.proofs.Laws.{below_has}
use Rattle.schedule.specs.Periodic.{Tasks, Valid, Constrained, LateSet}
use Rattle.schedule.specs.Response.{late_test}
use Rattle.schedule.specs.Arrays.{InLimits, tasks_of}
use Rattle.mask.proofs.Tests.{and_both, and_left, and_right}
use Rattle.schedule.proofs.LateSets.{late_test_lem}
use Rattle.schedule.proofs.TasksOfArrays.{valid_of, constrained_of}
use Rattle.conflict.specs.declared.Finding.{Finding}
use Rattle.conflict.specs.declared.Finding.TheVariants.{NoConflict, NotMinimal, MinimalConflict}
use Rattle.conflict.specs.Conflict.{Needed, Minimal, Right, pick_finding, smaller_late, finding_of, Checked}
use Rattle.schedule.specs.declared.Timing.{Timing}

-- one finding is right
right_unique : (s : Tasks) (set : ℕ) (a b : Finding) → Right s set a → Right s set b → a ≡ b
right_unique s set NoConflict NoConflict p q = refl
right_unique s set NoConflict NotMinimal p q = absurd (p q.0)
right_unique s set NoConflict MinimalConflict p q = absurd (p q.late)
right_unique s set NotMinimal NoConflict p q = absurd (q p.0)
right_unique s set NotMinimal NotMinimal p q = refl
right_unique s set NotMinimal MinimalConflict p q = absurd (p.1 q)
right_unique s set MinimalConflict NoConflict p q = absurd (q p.late)
right_unique s set MinimalConflict NotMinimal p q = absurd (q.1 p)
right_unique s set MinimalConflict MinimalConflict p q = refl

-- by the answer for the set without k: k is needed
pub needed_if : {s : Tasks} (set k rest : ℕ) → rest ≡ remove_of set k → (LateSet s (has rest) → ⊥) → Needed s set k
needed_if {s} set k rest e f u l = f (subst (λ (m : ℕ). LateSet s (has m)) (sym e) l)

-- or the set is not minimal
pub not_minimal : {s : Tasks} {set rest : ℕ} (k : ℕ) → T (has set k) → rest ≡ remove_of set k → LateSet s (has rest) → Minimal s set → ⊥
not_minimal {s} k m e l q = q.needed k m (subst (λ (x : ℕ). LateSet s (has x)) e l)

module _ (s : Tasks) (valid : Valid s) (short : Constrained s) (set : ℕ) (tasks : T (below s.count set)) where
  pub finding_right : Right s set (finding_of s set)
  finding_right = go (late_test s (has set)) (smaller_late s set) (late_test_lem s valid (has set) short).0 (late_test_lem s valid (has set) short).1 (λ u. u) (λ u. u)
    where
      without : ℕ → Bool
      without k = late_test s (has (remove_of set k))

      go : (a b : Bool) → (T a → LateSet s (has set)) → (LateSet s (has set) → T a) → (T b → T (smaller_late s set)) → (T (smaller_late s set) → T b) → Right s set (pick_finding a b)
      go false b p q f g = q
      go true true p q f g = (
        p tt,
        λ m.
            let e = some_elim s.count (λ k. has set k && without k) (f tt) in
            let k = e.0 in
            m.needed k (and_left (has set k) (without k) e.2) ((late_test_lem s valid (has (remove_of set k)) short).0 (and_right (has set k) (without k) e.2)),
      )
      go true false p q f g = record {
        late = p tt;
        needed = λ k m l. g (some_intro s.count (λ k. has set k && without k) k (below_has s.count set tasks k m)
            (and_both (has set k) (without k) m ((late_test_lem s valid (has (remove_of set k)) short).1 l)));
      }

  checked : (v : Finding) → Right s set v → Checked s set v
  checked v p = record { value = right_unique s set v (finding_of s set) p finding_right; right = p }

pub checked_of : {n : ℕ} {rows : Timing} {set : ℕ} → InLimits n rows set → (v : Finding) → Right (tasks_of n rows) set v → Checked (tasks_of n rows) set v
checked_of {n} {rows} {set} a = checked (tasks_of n rows) (valid_of a) (constrained_of a) set a.inside
