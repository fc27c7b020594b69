-- The file of a table that was read is the file that it was read from. Assumes nothing.
use mathlib.Core.Path.{◌≡◌, sym, ap, ◌∙◌}
use mathlib.Core.List.{List, ◌++◌, append_assoc, append-nil}
use Prim.Native.Nat.{ℕ, zero, suc, ◌≤◌, ◌<◌}
use native.Mathlib.Omega.{arith}
use lib.ListN.{length, take, drop, get_or}
use lib.Seq.{take-length}
use Rattle.std.specs.Prelude.{Ok}
use Rattle.wire.specs.Wire.{Bytes, pieces}
use Rattle.layout.specs.declared.Kind.{Kind}
use Rattle.layout.specs.declared.Kind.TheVariants.{Network, Processor, Task, CoResident, Exclusive, Message}
use Rattle.layout.specs.declared.Progress.{Progress}
use Rattle.layout.specs.Format.{row, kinds, in_order, size, field, fields_from, count, bytes_of, place}
use Rattle.layout.proofs.EachKind.{each}
use Rattle.layout.proofs.Places.{place_first, place_next, place_start, place_end}
use Rattle.verdict.proofs.Acceptance.{kind_marked}
use Rattle.table.specs.declared.Table.{Table}
use Rattle.table.specs.Table.{column_of, table_of, read_of}
use Rattle.table.specs.Encode.{counts_of, values_of, encode_record, records_to, kinds_to, encode}
use Rattle.table.proofs.Columns.{value}
use Rattle.table.proofs.Fine.{Fine}
use Rattle.table.proofs.Ended.{present, read_whole}
use Rattle.table.proofs.Records.{joined, record_read}

module _ {s : List ℕ} {x : Progress} (b : Bytes s) (f : Fine s (length s) x) (some : 1 ≤ count x Network) where
  value_at : (k : Kind) (i j : ℕ) → j < count x k → get_or (column_of (row k).most s x k i) j 0 ≡ field k i s (place x k j)
  value_at = value f.reached.counted s

  counts_read : (k : Kind) → get_or (counts_of (table_of s x)) (row k).order 0 ≡ count x k
  unfolding table_of
  counts_read = each (λ k. get_or (counts_of (table_of s x)) (row k).order 0 ≡ count x k) (omega (arith, f.reached.counted.few Network))

  values_read : (k : Kind) (j : ℕ) → j < count x k → values_of (table_of s x) k j ≡ fields_from (row k).widths 2 s (place x k j)
  unfolding table_of
  values_read Network j l = let zero : j ≡ 0 = omega (arith, f.reached.counted.few Network) in rw (zero, place_first x)
  values_read Processor j l = simp (value_at Processor 0 j l, value_at Processor 1 j l)
  values_read Task j l = simp (value_at Task 0 j l, value_at Task 1 j l, value_at Task 2 j l, value_at Task 3 j l, value_at Task 4 j l, value_at Task 5 j l)
  values_read CoResident j l = simp (value_at CoResident 0 j l)
  values_read Exclusive j l = simp (value_at Exclusive 0 j l)
  values_read Message j l = simp (value_at Message 0 j l, value_at Message 1 j l, value_at Message 2 j l)

  one_read : (k : Kind) (j : ℕ) → j < count x k → encode_record k (values_of (table_of s x) k j) ≡ take (size k) (drop (place x k j) s)
  one_read k j l =
      let a = (f.stands k j l).accepted in
      ap (encode_record k) (values_read k j l) ∙ record_read k s (place x k j) b (kind_marked s (place x k j) a.marked) a.whole

  -- the records of a kind, behind what stands before them
  records_read : (k : Kind) (p : List ℕ) → p ≡ take (place x k 0) s → (n : ℕ) → n ≤ count x k → p ++ records_to (table_of s x) k n ≡ take (place x k n) s
  unfolding pieces
  records_read k p e zero l = append-nil p ∙ e
  records_read k p e (suc n) l =
      sym (append_assoc p (records_to (table_of s x) k n) _)
      ∙ joined s (place x k n) (size k) (records_read k p e n (omega arith)) (one_read k n l)
      ∙ ap (λ (m : ℕ). take m s) (place_next x k n)

  kinds_read : (n : ℕ) → n ≤ length kinds → kinds_to (table_of s x) n ≡ take (bytes_of (count x) n) s
  unfolding pieces
  kinds_read zero l = ap (λ (m : ℕ). take m s) (sym (place_first x) ∙ place_start x 0 (omega arith))
  kinds_read (suc n) l =
      let k = in_order n in
      rw (counts_read k)
      (records_read k (kinds_to (table_of s x) n) (kinds_read n (omega arith) ∙ ap (λ (m : ℕ). take m s) (sym (place_start x n l))) (count x k) (omega arith)
      ∙ ap (λ (m : ℕ). take m s) (place_end x n l))

  encoded : encode (table_of s x) ≡ s
  unfolding encode
  encoded = kinds_read (length kinds) (omega arith) ∙ ap (λ (n : ℕ). take n s) (sym f.reached.ends) ∙ take-length s

pub encode_read : (s : List ℕ) {t : Table} → Bytes s → read_of s ≡ Ok t → encode t ≡ s
encode_read s b e = let r = read_whole s e in ap encode r.table ∙ encoded b r.fine (present r.progress r.complete).0
