-- What was taken of a table's encoding before record j of a kind. Assumes nothing.
use mathlib.Core.Path.{◌≡◌, refl, sym, ap, subst, ◌∙◌}
use mathlib.Core.Logic.{◌≢◌}
use mathlib.Core.List.{List}
use Prim.Native.Nat.{ℕ, suc, ◌+◌, ◌≤◌, ◌<◌}
use native.Mathlib.Omega.{arith}
use native.Mathlib.Numerals.{add-one}
use borrow.Author.Tests.{ne_eqb}
use lib.ListN.{length, get_or, set}
use lib.Seq.{get_or-set_same, get_or-set_other, set-get_or, set-set}
use Rattle.lcm.specs.Lcm.{lcm_to}
use Rattle.layout.specs.declared.Kind.{Kind}
use Rattle.layout.specs.declared.Kind.TheVariants.{Network, Task}
use Rattle.layout.specs.declared.Progress.{Progress}
use Rattle.layout.specs.Format.{row, kinds, field, count, place}
use Rattle.layout.proofs.EachKind.{Versus, same, other, versus, order_below}
use Rattle.layout.proofs.Places.{place_agree}
use Rattle.verdict.specs.Faults.{hyperperiod_with}
use Rattle.table.specs.declared.Table.{Table}
use Rattle.table.specs.Scan.{no_records, with_record}
use Rattle.table.specs.Table.{column}
use Rattle.table.specs.Encode.{counts_of, values_of}
use Rattle.table.proofs.Columns.{column_length, column_in, column_beyond, column_more}
use Rattle.table.proofs.EncodedRecords.{whole}

-- the counts: all of the first n kinds
abbrev counts_to : Table → ℕ → List ℕ
counts_to t n = column (length kinds) n (λ i. get_or (counts_of t) i 0)

-- and j of the kind k behind them
abbrev pub counts_at : Table → Kind → ℕ → List ℕ
counts_at t k j = set (counts_to t (row k).order) (row k).order j

abbrev pub period : Table → ℕ → ℕ
period t j = get_or t.tasks.t j 0

-- the records so far, where a kind from n on may follow: the hyperperiod is that of the tasks among them
abbrev pub progress_of : Table → ℕ → List ℕ → Progress
progress_of t n counts = record { counts = counts; next = n; hyperperiod = lcm_to (get_or counts (row Task).order 0) (period t) }

abbrev pub progress_at : Table → Kind → ℕ → ℕ → Progress
progress_at t k j n = progress_of t n (counts_at t k j)

-- ---- the counts and the places at a stage

module _ (t : Table) (k : Kind) (j n : ℕ) where
  pub count_here : count (progress_at t k j n) k ≡ j
  count_here = get_or-set_same (counts_to t (row k).order) (row k).order j 0 (omega (arith, column_length (length kinds) (row k).order (λ i. get_or (counts_of t) i 0), order_below k))

  pub count_before : (i : Kind) → (row i).order < (row k).order → count (progress_at t k j n) i ≡ count (whole t) i
  count_before i l =
      get_or-set_other (counts_to t (row k).order) (row k).order (row i).order j 0 (λ e. omega arith)
      ∙ column_in (length kinds) (row k).order (λ m. get_or (counts_of t) m 0) (row i).order (omega (arith, order_below k)) l

  pub place_at : (i : Kind) → (row i).order ≤ (row k).order → (m : ℕ) → place (progress_at t k j n) i m ≡ place (whole t) i m
  place_at i l = place_agree (progress_at t k j n) (whole t) i (λ e m. count_before e (omega arith))

-- ---- from stage to stage

pub stage_first : (t : Table) → progress_at t Network 0 0 ≡ no_records
unfolding lcm_to column
stage_first t = refl

-- all records of a kind, and none of the next
counts_last : (t : Table) (k : Kind) → counts_at t k (count (whole t) k) ≡ counts_to t (suc (row k).order)
counts_last t k = column_more (length kinds) (row k).order (λ i. get_or (counts_of t) i 0) (order_below k)

counts_first : (t : Table) (k : Kind) → counts_to t (row k).order ≡ counts_at t k 0
counts_first t k =
    let n = (row k).order in
    sym (set-get_or (counts_to t n) n 0) ∙ ap (set (counts_to t n) n) (column_beyond (length kinds) n (λ i. get_or (counts_of t) i 0) n (omega arith))

pub stage_kind : (t : Table) (k i : Kind) → (row i).order ≡ suc (row k).order → counts_at t k (count (whole t) k) ≡ counts_at t i 0
stage_kind t k i e = counts_last t k ∙ ap (counts_to t) (sym e) ∙ counts_first t i

pub stage_last : (t : Table) (k : Kind) → suc (row k).order ≡ length kinds → counts_at t k (count (whole t) k) ≡ counts_of t
unfolding column
stage_last t k e = counts_last t k ∙ ap (counts_to t) e

-- one record more, with the table's values
module _ (t : Table) (s : List ℕ) (at j n : ℕ) where
  Next : Kind → Type 0
  Next k = ((i : ℕ) → field k i s at ≡ get_or (values_of t k j) i 0)
      → hyperperiod_with s at (progress_at t k j n) k ≡ lcm_to (count (progress_at t k (suc j) n) Task) (period t)

  task_next : Next Task
  unfolding Next lcm_to
  task_next h = rw (count_here t Task j n, count_here t Task (suc j) n, h 1)

  other_next : (k : Kind) → (row Task).order ≢ (row k).order → Next k
  unfolding Next
  other_next k d h = rw (ne_eqb (row k).order (row Task).order (λ e. d (sym e))) (ap (λ (m : ℕ). lcm_to m (period t)) (tasks j ∙ sym (tasks (suc j))))
    where
      tasks : (i : ℕ) → count (progress_at t k i n) Task ≡ get_or (counts_to t (row k).order) (row Task).order 0
      tasks i = get_or-set_other (counts_to t (row k).order) (row k).order (row Task).order i 0 d

  hyperperiod_next : (k : Kind) → Versus Task k → Next k
  hyperperiod_next k (same e) = subst Next e task_next
  hyperperiod_next k (other d) = other_next k d

  counts_next : (k : Kind) → set (counts_at t k j) (row k).order (count (progress_at t k j n) k + 1) ≡ counts_at t k (suc j)
  counts_next k =
      set-set (counts_to t (row k).order) (row k).order j (count (progress_at t k j n) k + 1)
      ∙ ap (counts_at t k) (ap (λ (m : ℕ). m + 1) (count_here t k j n) ∙ add-one j)

  pub stage_next : (k : Kind) → ((i : ℕ) → field k i s at ≡ get_or (values_of t k j) i 0)
      → with_record (progress_at t k j n) k (hyperperiod_with s at (progress_at t k j n) k) ≡ progress_at t k (suc j) (row k).next
  unfolding Next
  stage_next k h = λ i. record { counts = counts_next k i; next = (row k).next; hyperperiod = hyperperiod_next k (versus Task k) h i }
