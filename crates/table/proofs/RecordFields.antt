-- A record's bytes within a list: its mark and its fields are read back. Assumes nothing.
use mathlib.Core.Path.{◌≡◌, refl, sym, ap, ap₂, ◌∙◌}
use mathlib.Core.Bool.{true}
use mathlib.Core.List.{List, [], ◌∷◌, ◌++◌, append_assoc}
use Prim.Native.Nat.{ℕ, ◌+◌, ◌^◌, ◌≤◌, ◌<◌}
use native.Mathlib.Omega.{arith}
use lib.ListN.{length, get_or, length-append}
use Rattle.wire.specs.Wire.{bytes, mark_at}
use Rattle.wire.proofs.Laws.{bytes_length, number_at, mark_stands}
use Rattle.layout.specs.declared.Kind.{Kind}
use Rattle.layout.specs.Format.{row, size, total_width, fields_from, field}
use Rattle.layout.proofs.EachKind.{mark_two}
use Rattle.table.specs.Encode.{field_bytes, encode_record}

-- as many values as widths, each of its width
pub data Fit : List ℕ → List ℕ → Type 0 where
  none : Fit [] []
  more : {w v : ℕ} {ws vs : List ℕ} → v < 256 ^ w → Fit ws vs → Fit (w ∷ ws) (v ∷ vs)

fields_length : {ws vs : List ℕ} → Fit ws vs → length (field_bytes ws vs) ≡ total_width ws
unfolding field_bytes
fields_length none = refl
fields_length (more {w} {v} {ws} {vs} h f) = omega (arith, length-append (bytes w v) (field_bytes ws vs), bytes_length w v, fields_length f)

fields_read : {ws vs : List ℕ} → Fit ws vs → (p q : List ℕ) (o at : ℕ) → length p ≡ at + o → fields_from ws o (p ++ (field_bytes ws vs ++ q)) at ≡ vs
unfolding field_bytes
fields_read none p q o at e = refl
fields_read (more {w} {v} {ws} {vs} h f) p q o at e =
    let rest = field_bytes ws vs ++ q in
    rw append_assoc
    (ap₂ ◌∷◌
    (number_at p rest w v (at + o) e h)
    (ap (λ (s : List ℕ). fields_from ws (o + w) s at) (sym (append_assoc p (bytes w v) rest))
    ∙ fields_read f (p ++ bytes w v) q (o + w) at (omega (arith, length-append p (bytes w v), bytes_length w v))))

pub record_length : (k : Kind) {vs : List ℕ} → Fit (row k).widths vs → length (encode_record k vs) ≡ size k
unfolding encode_record
record_length k {vs} f = rw (mark_two k) (omega (arith, fields_length f))

-- the record of a kind with the values vs stands at a place
pub record Stands (s : List ℕ) (at : ℕ) (k : Kind) (vs : List ℕ) : Type 0 where
  pub before : List ℕ
  pub behind : List ℕ
  pub splits : s ≡ before ++ (encode_record k vs ++ behind)
  pub long : length before ≡ at

module _ {s : List ℕ} {at : ℕ} {k : Kind} {vs : List ℕ} (r : Stands s at k vs) where
  pub stands_mark : mark_at s at (row k).mark ≡ true
  unfolding encode_record
  stands_mark = rw (r.splits, ← r.long, mark_two k) (mark_stands r.before (field_bytes (row k).widths vs ++ r.behind) _ _)

  pub stands_whole : Fit (row k).widths vs → at + size k ≤ length s
  stands_whole f = rw r.splits (omega (arith, r.long, length-append r.before (encode_record k vs ++ r.behind), length-append (encode_record k vs) r.behind, record_length k f))

  pub stands_field : Fit (row k).widths vs → (i : ℕ) → field k i s at ≡ get_or vs i 0
  unfolding encode_record
  stands_field f i =
      let m = (row k).mark in
      let e : s ≡ r.before ++ m ++ (field_bytes (row k).widths vs ++ r.behind) = r.splits ∙ simp append_assoc in
      let l : length (r.before ++ m) ≡ at + 2 = omega (arith, length-append r.before m, ap length (mark_two k), r.long) in
      ap (λ (l : List ℕ). get_or l i 0) (ap (λ (l : List ℕ). fields_from (row k).widths 2 l at) e ∙ fields_read f (r.before ++ m) r.behind 2 at l)
