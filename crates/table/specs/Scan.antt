-- The file, record by record from the left (01: the first faulty record decides).
use Rattle.std.specs.Prelude.{Bool, ◌||◌, cond, List, ℕ, zero, suc, ◌+◌, ltb, eqb, length, set, replicate, Result, Ok, Err}
use Rattle.layout.specs.declared.Kind.{Kind}
use Rattle.layout.specs.declared.Kind.TheVariants.{Network, Processor, Task}
use Rattle.verdict.specs.declared.Cause.{Cause}
use Rattle.verdict.specs.declared.Cause.TheVariants.{Missing}
use Rattle.verdict.specs.declared.Taken.{Taken}
use Rattle.layout.specs.declared.Progress.{Progress}
use Rattle.table.specs.declared.Refusal.{Refusal}
use Rattle.layout.specs.Format.{row, size, count}
use Rattle.verdict.specs.Faults.{verdict}
use Rattle.table.specs.Refusal.{refusal}

-- before the first record
abbrev pub no_records : Progress
no_records = record { counts = replicate 6 0; next = 0; hyperperiod = 1 }

-- with one record more, of the kind k
abbrev pub with_record : Progress → Kind → ℕ → Progress
with_record x k h = record { counts = set x.counts (row k).order (count x k + 1); next = (row k).next; hyperperiod = h }

-- 11: at the end no NT, PR or TK; the place is the length
unfoldable pub missing : Progress → Bool
missing x = eqb (count x Network) 0 || eqb (count x Processor) 0 || eqb (count x Task) 0

unfoldable pub at_end : ℕ → Progress → Result Progress Refusal
at_end at x = cond (missing x) (Err (refusal Missing at)) (Ok x)

-- by the verdict on the record at a place: the refusal, or the rest of the file behind the record
abbrev pub after : Result Taken Cause → ℕ → Progress → (ℕ → Progress → Result Progress Refusal) → Result Progress Refusal
after (Err cause) at x rest = Err (refusal cause at)
after (Ok t) at x rest = rest (at + size t.kind) (with_record x t.kind t.hyperperiod)

-- at most as many records as the first number says; a file has fewer than it has bytes
unfoldable pub scan_from : ℕ → List ℕ → ℕ → Progress → Result Progress Refusal
scan_from zero s at x = at_end at x
scan_from (suc n) s at x = cond (ltb at (length s)) (after (verdict s at x) at x (scan_from n s)) (at_end at x)

unfoldable pub scan_of : List ℕ → Result Progress Refusal
scan_of s = scan_from (length s) s 0 no_records
