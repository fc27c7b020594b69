-- Laws of the answer's layout: the conflicts in the part after the head, the whole buffer.
-- Assumes nothing.
use mathlib.Core.Path.{◌≡◌, refl, sym, ap, ◌∙◌}
use mathlib.Core.Bool.{Bool}
use mathlib.Core.List.{List, [], ◌∷◌, ◌++◌, append_assoc, append-nil}
use Prim.Native.Nat.{ℕ, zero, suc, ◌+◌, ◌*◌, ◌^◌, ◌≤◌, ◌<◌}
use native.Mathlib.Omega.{arith}
use lib.Dec.{eqb}
use lib.ListN.{length, get_or, take, drop, length-append}
use lib.Seq.{length-take-le, drop_at, drop-drop}
use Rattle.finite.specs.Finite.{some_below}
use Rattle.finite.proofs.Some.{some_ext}
use Rattle.wire.specs.Wire.{number, bytes, Bytes, bytes_at, record_bytes, laid, Put}
use Rattle.wire.proofs.Laws.{number_at, number_behind, bytes_at_number, record_length}
use Rattle.wire.proofs.Put.{put_length, put_then}
use Rattle.answer.specs.Answer.{conflict_bytes, records, end_bytes, count_of, answer_bytes, mask_at, is_listed, Listing}

-- ---- conflict records

records_length : (cs : List ℕ) → length (records cs) ≡ 6 * length cs
unfolding records
records_length [] = refl
records_length (c ∷ cs) = simp (length-append, record_length) (omega (arith, records_length cs))

records_snoc : (cs : List ℕ) (m : ℕ) → records (cs ++ (m ∷ [])) ≡ records cs ++ conflict_bytes m
unfolding records
records_snoc [] m = append-nil (conflict_bytes m)
records_snoc (c ∷ cs) m =
    ap (λ (l : List ℕ). conflict_bytes c ++ l) (records_snoc cs m) ∙ sym (append_assoc (conflict_bytes c) (records cs) (conflict_bytes m))

-- the mask of the first record
first_mask : (c : ℕ) (rest : List ℕ) → c < 2 ^ 32 → mask_at (conflict_bytes c ++ rest) 0 ≡ c
unfolding record_bytes
first_mask c rest b = number_at (78 ∷ 71 ∷ []) rest 4 c 2 refl b

mask_at_lem : (cs rest : List ℕ) → ((j : ℕ) → get_or cs j 0 < 2 ^ 32) → (j : ℕ) → j < length cs → mask_at (records cs ++ rest) j ≡ get_or cs j 0
unfolding records
mask_at_lem [] rest b j l = absurd (omega arith)
mask_at_lem (c ∷ cs) rest b zero l = rw append_assoc (first_mask c (records cs ++ rest) (b 0))
mask_at_lem (c ∷ cs) rest b (suc j) l =
    ap (λ (s : List ℕ). number s (6 * suc j + 2) 4) (append_assoc (conflict_bytes c) (records cs) rest)
    ∙ ap (λ (k : ℕ). number (conflict_bytes c ++ (records cs ++ rest)) k 4) (omega arith)
    ∙ number_behind (conflict_bytes c) (records cs ++ rest) 6 (6 * j + 2) 4 (record_length (78 ∷ 71 ∷ []) c)
    ∙ mask_at_lem cs rest (λ i. b (suc i)) j (omega arith)

-- the four mask bytes of record j are those of m exactly where its mask is m
pub same_mask : (list : List ℕ) → Bytes list → (j m : ℕ) → m < 2 ^ 32 → bytes_at list (6 * j + 2) (bytes 4 m) ≡ eqb (mask_at list j) m
same_mask list h j m b = bytes_at_number list h 4 (6 * j + 2) m b

-- a mask is listed exactly where one of the masks of the list is the same
pub listed_masks : (list : List ℕ) → Bytes list → (count m : ℕ) → m < 2 ^ 32 → is_listed list count m ≡ some_below count (λ j. eqb (mask_at list j) m)
listed_masks list h count m b = some_ext count _ _ (λ j l. same_mask list h j m b)

words_snoc : (cs : List ℕ) (m : ℕ) → ((j : ℕ) → get_or cs j 0 < 2 ^ 32) → m < 2 ^ 32 → (j : ℕ) → get_or (cs ++ (m ∷ [])) j 0 < 2 ^ 32
words_snoc [] m b h zero = h
words_snoc [] m b h (suc j) = omega arith
words_snoc (c ∷ cs) m b h zero = b 0
words_snoc (c ∷ cs) m b h (suc j) = words_snoc cs m (λ i. b (suc i)) h j

-- ---- the list in the part after the head

module _ {old cs list : List ℕ} (w : Listing old cs list) where
  -- the records are put at its start
  listed : Put old 0 (records cs) list (6 * length cs)
  unfolding laid
  listed = let e : 0 + length (records cs) ≡ 6 * length cs = omega (arith, records_length cs) in record { holds = rw e w.holds; ends = sym e; room = omega (arith, w.room) }

  pub listing_length : length list ≡ length old
  listing_length = put_length listed

  -- bytes laid behind the records
  behind : (new : List ℕ) {k : ℕ} → k ≡ length cs → 6 * k + length new ≤ length old → laid (6 * k) new list ≡ (records cs ++ new) ++ drop (6 * length cs + length new) old
  unfolding laid
  behind new q r =
      let put : Put list (6 * length cs) new (laid (6 * length cs) new list) (6 * length cs + length new) =
      record { holds = refl; ends = refl; room = omega (arith, listing_length) } in
      let e : 0 + length (records cs ++ new) ≡ 6 * length cs + length new = omega (arith, length-append (records cs) new, records_length cs) in
      rw q ((put_then listed put).holds ∙ ap (λ (n : ℕ). (records cs ++ new) ++ drop n old) e)

  -- one conflict more
  pub listing_append : {k m : ℕ} {list' : List ℕ} → k ≡ length cs → 6 * k + 9 ≤ length old → m < 2 ^ 32
      → list' ≡ laid (6 * k) (conflict_bytes m) list → Listing old (cs ++ (m ∷ [])) list'
  listing_append {k} {m} {list'} q r b e =
      let six = record_length (78 ∷ 71 ∷ []) m in
      let rest : 6 * length cs + length (conflict_bytes m) ≡ 6 * length (cs ++ (m ∷ [])) = omega (arith, six, length-append cs (m ∷ [])) in
      record {
        holds = e ∙ behind (conflict_bytes m) q (omega (arith, six)) ∙ rw (records_snoc cs m, rest) refl;
        room = omega (arith, length-append cs (m ∷ []));
        words = words_snoc cs m w.words b;
      }

  -- the end behind the list
  pub listing_end : {k : ℕ} {list' : List ℕ} → k ≡ length cs → (complete : Bool) → list' ≡ laid (6 * k) (end_bytes complete) list
      → list' ≡ records cs ++ end_bytes complete ++ drop (6 * length cs + 3) old
  listing_end q complete e = e ∙ behind (end_bytes complete) q (omega (arith, w.room))

-- ---- the whole buffer

-- the head, and what a list and its end leave behind it
module _ (n : ℕ) (head old : List ℕ) {cs list list' : List ℕ} {k : ℕ} (complete : Bool) (q : k ≡ length cs) (e : list' ≡ laid (6 * k) (end_bytes complete) list) where
  pub whole : Listing (drop (n + 2) old) cs list → head ++ list' ≡ answer_bytes n head cs complete old
  unfolding answer_bytes
  whole w =
      let later = drop-drop (6 * length cs + 3) (n + 2) old in
      let count : n + 2 + (6 * length cs + 3) ≡ count_of n (length cs) = omega arith in
      rw (listing_end w q complete e, later, count)
      (sym (append_assoc head (records cs ++ end_bytes complete) (drop (count_of n (length cs)) old))
      ∙ ap (λ (l : List ℕ). l ++ drop (count_of n (length cs)) old) (sym (append_assoc head (records cs) (end_bytes complete))))

  -- the part after the head is lent, and the head is put last
  pub whole_last : (buffer : List ℕ) → n + 2 ≤ length buffer → Listing (drop (n + 2) old) cs list
      → head ++ drop (n + 2) (take (n + 2) buffer ++ list') ≡ answer_bytes n head cs complete old
  whole_last buffer h w = rw (drop_at (take (n + 2) buffer) list' (n + 2) (length-take-le (n + 2) buffer h)) (whole w)
