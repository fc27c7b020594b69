-- Where the records of a table stand in its encoding. Assumes nothing.
use mathlib.Core.Path.{◌≡◌, sym, ap, ◌∙◌}
use mathlib.Core.List.{List, [], ◌++◌, append_assoc, append-nil}
use Prim.Native.Nat.{ℕ, zero, suc, ◌+◌, ◌≤◌, ◌<◌}
use native.Mathlib.Omega.{arith}
use native.Mathlib.Nat.{not-suc-le-zero}
use native.Mathlib.Decide.{ℕ_discrete}
use lib.ListN.{length, get_or, length-append}
use Rattle.wire.specs.Wire.{pieces}
use Rattle.layout.specs.declared.Kind.{Kind}
use Rattle.layout.specs.declared.Kind.TheVariants.{Network, Processor, Task, CoResident, Exclusive, Message}
use Rattle.layout.specs.declared.Progress.{Progress}
use Rattle.layout.specs.Format.{row, kinds, in_order, count, bytes_of, place, end, field}
use Rattle.layout.proofs.EachKind.{order_below, kind_of_lem}
use Rattle.layout.proofs.Places.{place_first, place_next, place_zero, place_start, place_end}
use Rattle.table.specs.declared.Table.{Table}
use Rattle.table.specs.Encode.{counts_of, values_of, records_to, kinds_to, encode_record, encode}
use Rattle.table.specs.Sound.{Sound}
use Rattle.table.proofs.RecordFields.{Fit, none, more, Stands, record_length, stands_field}

-- all records of a table are taken, and a message may follow
abbrev pub whole : Table → Progress
whole t = record { counts = counts_of t; next = 5; hyperperiod = t.hyperperiod }

pub values_fit : {t : Table} → Sound t → (k : Kind) (j : ℕ) → Fit (row k).widths (values_of t k j)
values_fit h Network j = more h.capacity none
values_fit h Processor j = more (h.processors.memory.fits j) (more (h.processors.limit.fits j) none)
values_fit h Task j =
    let a = h.tasks in
    more (a.c.fits j) (more (a.t.fits j) (more (a.d.fits j) (more (a.memory.fits j) (more (a.priority.fits j) (more (a.residence.fits j) none)))))
values_fit h CoResident j = more (h.co.mask.fits j) none
values_fit h Exclusive j = more (h.ex.mask.fits j) none
values_fit h Message j = let m = h.messages in more (m.sender.fits j) (more (m.receiver.fits j) (more (m.amount.fits j) none))

-- f j stands behind the j before it
Split : (ℕ → List ℕ) → ℕ → ℕ → Type 0
Split f n j = (q : List ℕ) × (pieces n f ≡ pieces j f ++ (f j ++ q))

join_split : (f : ℕ → List ℕ) (n j : ℕ) → j < n → Split f n j
unfolding Split pieces
join_split f zero j l = absurd (not-suc-le-zero l)
join_split f (suc n) j l = go (ℕ_discrete j n) (join_split f n j)
  where
    go : Dec (j ≡ n) → (j < n → Split f n j) → Split f (suc n) j
    go (yes e) ih = ([], rw (e, append-nil))
    go (no e) ih = let r = ih (omega arith) in (r.0 ++ f n, ap (λ (s : List ℕ). s ++ f n) r.1 ∙ simp append_assoc)

module _ {t : Table} (h : Sound t) where
  records_length : (k : Kind) (n : ℕ) → place (whole t) k 0 + length (records_to t k n) ≡ place (whole t) k n
  unfolding pieces
  records_length k zero = omega arith
  records_length k (suc n) =
      omega (
        arith,
        length-append (records_to t k n) (encode_record k (values_of t k n)),
        records_length k n,
        record_length k (values_fit h k n),
        place_next (whole t) k n,
      )

  kinds_length : (n : ℕ) → n ≤ length kinds → length (kinds_to t n) ≡ bytes_of (count (whole t)) n
  unfolding pieces
  kinds_length zero l = sym (place_first (whole t)) ∙ place_start (whole t) 0 (omega arith)
  kinds_length (suc n) l =
      let k = in_order n in
      omega (
        arith,
        length-append (kinds_to t n) (records_to t k (count (whole t) k)),
        kinds_length n (omega arith),
        place_start (whole t) n l,
        records_length k (count (whole t) k),
        place_end (whole t) n l,
      )

  pub record_stands : (k : Kind) (j : ℕ) → j < count (whole t) k → Stands (encode t) (place (whole t) k j) k (values_of t k j)
  unfolding encode Split
  record_stands k j l =
      let n = (row k).order in
      let of-kind = join_split (λ i. records_to t (in_order i) (count (whole t) (in_order i))) (length kinds) n (order_below k) in
      let of-record = join_split (λ i. encode_record k (values_of t k i)) (count (whole t) k) j l in
      record {
        before = kinds_to t n ++ records_to t k j;
        behind = of-record.0 ++ of-kind.0;
        splits = of-kind.1 ∙ rw (kind_of_lem k) (ap (λ (s : List ℕ). kinds_to t n ++ (s ++ of-kind.0)) of-record.1 ∙ simp append_assoc);
        long = omega (arith, length-append (kinds_to t n) (records_to t k j), kinds_length n (omega (arith, order_below k)), place_zero (whole t) k, records_length k j);
      }

  pub field_at : (k : Kind) (j : ℕ) → j < count (whole t) k → (i : ℕ) → field k i (encode t) (place (whole t) k j) ≡ get_or (values_of t k j) i 0
  field_at k j l i = stands_field (record_stands k j l) (values_fit h k j) i

  pub encode_length : length (encode t) ≡ end (whole t)
  unfolding encode
  encode_length = kinds_length (length kinds) (omega arith)
