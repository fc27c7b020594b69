-- An encoding is a list of bytes. Assumes nothing.
use mathlib.Core.List.{List, [], ◌∷◌, ◌++◌}
use Prim.Native.Nat.{ℕ, zero, suc, ◌/◌, ◌<◌}
use native.Mathlib.Omega.{arith}
use lib.Dec.{lit<}
use native.Mathlib.Nat.{mod-lt}
use Rattle.wire.specs.Wire.{bytes, Bytes, pieces}
use Rattle.layout.specs.declared.Kind.{Kind}
use Rattle.layout.specs.Format.{row, in_order}
use Rattle.layout.proofs.EachKind.{mark_two, mark_bytes_lem}
use Rattle.table.specs.declared.Table.{Table}
use Rattle.table.specs.Encode.{field_bytes, encode_record, encode}

data Small : List ℕ → Type 0 where
  none : Small []
  more : {b : ℕ} {s : List ℕ} → b < 256 → Small s → Small (b ∷ s)

small_bytes : {s : List ℕ} → Small s → Bytes s
small_bytes none k = omega arith
small_bytes (more l p) zero = l
small_bytes (more l p) (suc k) = small_bytes p k

both : {s t : List ℕ} → Small s → Small t → Small (s ++ t)
both none q = q
both (more l p) q = more l (both p q)

mark_small : (k : Kind) → Small (row k).mark
mark_small k = rw (mark_two k) (more (mark_bytes_lem k).0 (more (mark_bytes_lem k).1 none))

number_small : (w v : ℕ) → Small (bytes w v)
unfolding bytes
number_small zero v = none
number_small (suc w) v = more (mod-lt v (lit< tt)) (number_small w (v / 256))

fields_small : (ws vs : List ℕ) → Small (field_bytes ws vs)
unfolding field_bytes
fields_small [] vs = none
fields_small (w ∷ ws) [] = none
fields_small (w ∷ ws) (v ∷ vs) = both (number_small w v) (fields_small ws vs)

record_small : (k : Kind) (vs : List ℕ) → Small (encode_record k vs)
unfolding encode_record
record_small k vs = both (mark_small k) (fields_small (row k).widths vs)

join_small : (n : ℕ) (f : ℕ → List ℕ) → ((j : ℕ) → Small (f j)) → Small (pieces n f)
unfolding pieces
join_small zero f h = none
join_small (suc n) f h = both (join_small n f h) (h n)

pub encode_bytes : (t : Table) → Bytes (encode t)
unfolding encode
encode_bytes t = small_bytes (join_small _ _ (λ i. join_small _ _ (λ j. record_small (in_order i) _)))
