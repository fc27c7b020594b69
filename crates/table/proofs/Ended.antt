-- How a scan ends: at the file's end with all its records in place, or refused where the records before reached. Assumes nothing.
use mathlib.Core.Path.{◌≡◌, refl, sym, ap, subst}
use mathlib.Core.Logic.{◌≢◌}
use mathlib.Core.Bool.{Bool, true, false, cond, ◌||◌}
use mathlib.Core.List.{List}
use Prim.Native.Nat.{ℕ, zero, suc, ◌+◌, ◌≤◌}
use native.Mathlib.Omega.{arith}
use borrow.Author.Tests.{ltb-false, eqb-false}
use lib.Dec.{ltb, eqb}
use lib.ListN.{length}
use Rattle.std.specs.Prelude.{Result, Ok, Err}
use Rattle.layout.specs.declared.Kind.TheVariants.{Network, Processor, Task}
use Rattle.verdict.specs.declared.Cause.{Cause}
use Rattle.verdict.specs.declared.Cause.TheVariants.{Missing}
use Rattle.verdict.specs.declared.Taken.{Taken}
use Rattle.layout.specs.declared.Progress.{Progress}
use Rattle.layout.specs.Format.{count, size, longest}
use Rattle.layout.proofs.Places.{end_most}
use Rattle.verdict.specs.Faults.{verdict}
use Rattle.verdict.specs.Reached.{Reached}
use Rattle.verdict.proofs.Acceptance.{accepted}
use Rattle.verdict.proofs.Passed.{neither}
use Rattle.table.specs.declared.Refusal.{Refusal}
use Rattle.table.specs.declared.Table.{Table}
use Rattle.table.specs.Refusal.{refusal}
use Rattle.table.specs.Scan.{with_record, no_records, missing, at_end, after, scan_from, scan_of}
use Rattle.table.specs.Table.{table_of, reading_by, read_of}
use Rattle.table.proofs.Fine.{Fine, fine_start, fine_next}

data Ended (s : List ℕ) : Result Progress Refusal → Type 0 where
  whole : {x : Progress} → Fine s (length s) x → missing x ≡ false → Ended s (Ok x)
  refused : {cause : Cause} {at : ℕ} {x : Progress} → Reached s at x → Ended s (Err (refusal cause at))

-- where nothing is missing (01, 11)
pub present : (x : Progress) → missing x ≡ false → (1 ≤ count x Network) × (1 ≤ count x Processor) × (1 ≤ count x Task)
unfolding missing
present x e =
    let t = neither (eqb (count x Network) 0 || eqb (count x Processor) 0) (eqb (count x Task) 0) e in
    let u = neither (eqb (count x Network) 0) (eqb (count x Processor) 0) t.0 in
    (positive _ u.0, positive _ u.1, positive _ t.1)
  where
    positive : (n : ℕ) → eqb n 0 ≡ false → 1 ≤ n
    positive n p = let d : n ≢ 0 = eqb-false n 0 p in omega arith

module _ {s : List ℕ} {at : ℕ} {x : Progress} (f : Fine s at x) where
  at_end_lem : length s ≤ at → Ended s (at_end at x)
  unfolding at_end
  at_end_lem l = go (missing x) refl
    where
      end : at ≡ length s
      end = omega (arith, f.reached.inside)

      go : (b : Bool) → missing x ≡ b → Ended s (cond b (Err (refusal Missing at)) (Ok x))
      go true e = refused f.reached
      go false e = whole (subst (λ (n : ℕ). Fine s n x) end f) e

  -- by the verdict on the next record
  one : (n : ℕ) → length s ≤ at + suc n → ((at' : ℕ) (x' : Progress) → Fine s at' x' → length s ≤ at' + n → Ended s (scan_from n s at' x'))
      → Ended s (after (verdict s at x) at x (scan_from n s))
  one n l rest = go (verdict s at x) refl
    where
      go : (v : Result Taken Cause) → verdict s at x ≡ v → Ended s (after v at x (scan_from n s))
      go (Err cause) e = refused f.reached
      go (Ok t) e =
          let a = accepted s at x {k = t.kind} {h = t.hyperperiod} e in
          subst (λ (m : ℕ). Ended s (scan_from n s (at + size t.kind) (with_record x t.kind m))) (sym a.1) (rest _ _ (fine_next f a.0) (omega arith))

scan_ends : (n : ℕ) (s : List ℕ) (at : ℕ) (x : Progress) → Fine s at x → length s ≤ at + n → Ended s (scan_from n s at x)
unfolding scan_from
scan_ends zero s at x f l = at_end_lem f (omega arith)
scan_ends (suc n) s at x f l = go (ltb at (length s)) refl (one f n l (λ at' x' g m. scan_ends n s at' x' g m))
  where
    go : (b : Bool) → ltb at (length s) ≡ b → Ended s (after (verdict s at x) at x (scan_from n s)) → Ended s (cond b (after (verdict s at x) at x (scan_from n s)) (at_end at x))
    go true e r = r
    go false e r = at_end_lem f (ltb-false at (length s) e)

scan_ended : (s : List ℕ) → Ended s (scan_of s)
unfolding scan_of
scan_ended s = scan_ends (length s) s 0 no_records (fine_start s) (omega arith)

-- a scan that comes to the end has taken the whole file
pub scan_whole : (s : List ℕ) {x : Progress} → scan_of s ≡ Ok x → Fine s (length s) x × (missing x ≡ false)
scan_whole s {x} e = go (subst (Ended s) e (scan_ended s))
  where
    go : Ended s (Ok x) → Fine s (length s) x × (missing x ≡ false)
    go (whole f m) = (f, m)

-- a file that is read, and its table
pub record Read (s : List ℕ) (t : Table) : Type 0 where
  pub progress : Progress
  pub fine : Fine s (length s) progress
  pub complete : missing progress ≡ false
  pub table : t ≡ table_of s progress

pub read_whole : (s : List ℕ) {t : Table} → read_of s ≡ Ok t → Read s t
unfolding read_of
read_whole s {t} e = go (scan_of s) (scan_ended s) e
  where
    go : (r : Result Progress Refusal) → Ended s r → reading_by s r ≡ Ok t → Read s t
    go r (whole {x = x} f m) q = record { progress = x; fine = f; complete = m; table = cc }
    go r (refused f) q = absurd (let z : ◌≡◌ {A = ℕ} 0 1 = cc in omega arith)

-- a refusal's place lies behind records that a file may have, so within the longest file
pub refused_place : (s : List ℕ) {r : Refusal} → read_of s ≡ Err r → r.place ≤ longest
unfolding read_of
refused_place s {r} e = go (scan_of s) (scan_ended s) e
  where
    go : (u : Result Progress Refusal) → Ended s u → reading_by s u ≡ Err r → r.place ≤ longest
    go u (whole f m) p = absurd (let z : ◌≡◌ {A = ℕ} 0 1 = cc in omega arith)
    go u (refused {cause = d} {at = b} {x = x} q) p =
        let same : refusal d b ≡ r = cc in
        omega (arith, ap (λ (z : Refusal). z.place) same, q.ends, end_most x q.counted)
