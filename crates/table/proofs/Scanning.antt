-- The scan from record to record: its invariant, and the laws by which it goes on or ends. Assumes nothing.
use mathlib.Core.Path.{◌≡◌, refl, ap, ◌∙◌}
use mathlib.Core.List.{List}
use Prim.Native.Nat.{ℕ, zero, suc, ◌+◌, ◌-◌, ◌≤◌, ◌<◌}
use native.Mathlib.Omega.{arith}
use borrow.Author.Tests.{lt-ltb, le-ltb}
use lib.ListN.{length}
use Rattle.std.specs.Prelude.{Result, Ok, Err}
use Rattle.verdict.specs.declared.Cause.{Cause}
use Rattle.verdict.specs.declared.Taken.{Taken}
use Rattle.layout.specs.declared.Progress.{Progress}
use Rattle.layout.specs.Format.{size}
use Rattle.verdict.specs.Faults.{verdict}
use Rattle.verdict.specs.Reached.{Reached}
use Rattle.verdict.proofs.Acceptance.{accepted}
use Rattle.table.specs.Refusal.{refusal}
use Rattle.table.specs.Scan.{no_records, with_record, at_end, after, scan_from, scan_of}
use Rattle.table.proofs.Progress.{reached_start, reached_next}

-- the scan has come to a place with the records x, and the rest of the file decides
pub record Scanning (s : List ℕ) (at : ℕ) (x : Progress) : Type 0 where
  pub reached : Reached s at x
  pub left : ℕ
  pub enough : length s ≤ at + left
  pub rest : scan_of s ≡ scan_from left s at x

pub scan_start : (s : List ℕ) → Scanning s 0 no_records
unfolding scan_of
scan_start s = record { reached = reached_start s; left = length s; enough = omega arith; rest = refl }

module _ {s : List ℕ} {at : ℕ} {x : Progress} (w : Scanning s at x) where
  -- one record, where there are bytes left
  unrolled : at < length s → scan_of s ≡ after (verdict s at x) at x (scan_from (w.left - 1) s)
  unfolding scan_from
  unrolled l =
      let e : w.left ≡ suc (w.left - 1) = omega (arith, w.enough) in
      w.rest ∙ ap (λ (n : ℕ). scan_from n s at x) e ∙ rw (lt-ltb at (length s) l)

  pub scan_next : {t : Taken} → at < length s → verdict s at x ≡ Ok t → Scanning s (at + size t.kind) (with_record x t.kind t.hyperperiod)
  scan_next {t} l e =
      let a = accepted s at x {k = t.kind} {h = t.hyperperiod} e in
      record {
        reached = rw a.1 (reached_next w.reached a.0);
        left = w.left - 1;
        enough = omega (arith, w.enough);
        rest = unrolled l ∙ ap (λ (v : Result Taken Cause). after v at x (scan_from (w.left - 1) s)) e;
      }

  pub scan_refused : {c : Cause} → at < length s → verdict s at x ≡ Err c → scan_of s ≡ Err (refusal c at)
  scan_refused l e = unrolled l ∙ ap (λ (v : Result Taken Cause). after v at x (scan_from (w.left - 1) s)) e

  pub scan_end : length s ≤ at → scan_of s ≡ at_end at x
  unfolding scan_from
  scan_end l = w.rest ∙ go w.left
    where
      go : (n : ℕ) → scan_from n s at x ≡ at_end at x
      go zero = refl
      go (suc n) = rw (le-ltb at (length s) l)
