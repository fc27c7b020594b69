-- The bytes of fields, of a record and of the records of a kind are those that stand in the file. Assumes nothing.
use mathlib.Core.Path.{◌≡◌, refl, sym, ap, ap₂, ◌∙◌}
use mathlib.Core.Bool.{true}
use mathlib.Core.List.{List, [], ◌∷◌, ◌++◌}
use Prim.Native.Nat.{ℕ, ◌+◌, ◌≤◌}
use native.Mathlib.Nat.{add_assoc}
use native.Mathlib.Omega.{arith}
use lib.ListN.{length, take, drop}
use lib.Seq.{take-add, drop-drop}
use Rattle.wire.specs.Wire.{Bytes, mark_at}
use Rattle.wire.proofs.Laws.{bytes_number, mark_found}
use Rattle.layout.specs.declared.Kind.{Kind}
use Rattle.layout.specs.Format.{row, total_width, size, fields_from}
use Rattle.layout.proofs.EachKind.{mark_two}
use Rattle.table.specs.Encode.{field_bytes, encode_record}

-- two parts of a list, one behind the other; and of a file from a place on
pub joined : (l : List ℕ) (n m : ℕ) {p q : List ℕ} → p ≡ take n l → q ≡ take m (drop n l) → p ++ q ≡ take (n + m) l
joined l n m d e = ap₂ ◌++◌ d e ∙ sym (take-add n m l)

joined_at : (s : List ℕ) (at n m : ℕ) {p q : List ℕ} → p ≡ take n (drop at s) → q ≡ take m (drop (at + n) s) → p ++ q ≡ take (n + m) (drop at s)
joined_at s at n m d e = joined (drop at s) n m d (e ∙ ap (take m) (sym (drop-drop n at s)))

-- the fields of a record, from an offset on
pub fields_read : (ws : List ℕ) (o : ℕ) (s : List ℕ) (at : ℕ) → Bytes s → at + o + total_width ws ≤ length s → field_bytes ws (fields_from ws o s at) ≡ take (total_width ws) (drop (at + o) s)
unfolding field_bytes
fields_read [] o s at b l = refl
fields_read (w ∷ ws) o s at b l =
    joined_at s (at + o) w (total_width ws) (bytes_number s (at + o) w b (omega arith)) (fields_read ws (o + w) s at b (omega arith) ∙ ap (λ (n : ℕ). take (total_width ws) (drop n s)) (sym (add_assoc at o w)))

-- its mark
mark_read : (k : Kind) (s : List ℕ) (at : ℕ) → mark_at s at (row k).mark ≡ true → at + 2 ≤ length s → take 2 (drop at s) ≡ (row k).mark
mark_read k s at m l = rw (mark_two k) (mark_found s at _ _ (rw (mark_two k) at m) l)

-- the whole record
pub record_read : (k : Kind) (s : List ℕ) (at : ℕ) → Bytes s → mark_at s at (row k).mark ≡ true → at + size k ≤ length s
    → encode_record k (fields_from (row k).widths 2 s at) ≡ take (size k) (drop at s)
unfolding encode_record
record_read k s at b m l = joined_at s at 2 (total_width (row k).widths) (sym (mark_read k s at m (omega arith))) (fields_read (row k).widths 2 s at b (omega arith))
