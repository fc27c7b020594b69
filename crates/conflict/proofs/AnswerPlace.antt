-- The place of a refused conflict check. Assumes nothing.
use mathlib.Core.Path.{◌≡◌, refl, ap, subst}
use mathlib.Core.Bool.{Bool, true, false, cond}
use mathlib.Core.List.{List}
use Prim.Native.Nat.{ℕ, ◌≤◌}
use native.Mathlib.Omega.{arith}
use Rattle.std.specs.Prelude.{Result, Ok, Err}
use Rattle.layout.specs.Format.{longest}
use Rattle.verdict.specs.declared.Cause.TheVariants.{NoConflictMask}
use Rattle.verdict.specs.Faults.{bad_group}
use Rattle.table.specs.declared.Refusal.{Refusal}
use Rattle.table.specs.declared.Table.{Table}
use Rattle.table.specs.Refusal.{refusal}
use Rattle.table.specs.Table.{read_of}
use Rattle.table.proofs.Ended.{refused_place}
use Rattle.timing.specs.Timing.{tasks_in}
use Rattle.conflict.specs.Conflict.{finding_of}
use Rattle.conflict.specs.Entry.{answer_by, answer_of}

pub answer_place : (s : List ℕ) (mask : ℕ) {r : Refusal} → answer_of s mask ≡ Err r → r.place ≤ longest
answer_place s mask {r} e = go (read_of s) refl e
  where
    by_mask : (t : Table) (b : Bool) → cond b (Err (refusal NoConflictMask 0)) (Ok (finding_of (tasks_in t) mask)) ≡ Err r → r.place ≤ longest
    by_mask t true q = let z : refusal NoConflictMask 0 ≡ r = cc in omega (arith, ap (λ (y : Refusal). y.place) z)
    by_mask t false q = absurd (let z : ◌≡◌ {A = ℕ} 0 1 = cc in omega arith)

    go : (o : Result Table Refusal) → read_of s ≡ o → answer_by o mask ≡ Err r → r.place ≤ longest
    go (Err p) h q = let z : p ≡ r = cc in subst (λ (y : Refusal). y.place ≤ longest) z (refused_place s h)
    go (Ok t) h q = by_mask t (bad_group t.tasks.count mask) q
