-- The masks of the list, and the list as the answer's layout has it. Assumes nothing.
use mathlib.Core.Path.{◌≡◌, refl, ap, ap₂, ◌∙◌}
use mathlib.Core.List.{List, [], ◌∷◌, ◌++◌, append_assoc}
use Prim.Native.Nat.{ℕ, zero, suc, ◌+◌, ◌*◌, ◌^◌, ◌<◌}
use native.Mathlib.Decide.{ℕ_discrete, dec_lt}
use native.Mathlib.Omega.{arith}
use lib.ListN.{length, get_or, drop, length-append, get_or-append, get_or-eq_default}
use lib.Seq.{get_or_at}
use Rattle.wire.specs.Wire.{number, bytes, record_bytes}
use Rattle.wire.proofs.Laws.{bytes_length, bytes_bound, number_lt, number_append, number_behind, record_length}
use Rattle.schedule.specs.Periodic.{Tasks}
use Rattle.answer.specs.Answer.{conflict_bytes, records, mask_at, Listing}
use Rattle.nogoods.specs.Nogoods.{masks_in, Nogoods, Extended}

pub masks_long : (list : List ℕ) (count : ℕ) → length (masks_in list count) ≡ count
unfolding masks_in
masks_long list zero = refl
masks_long list (suc count) = simp length-append (omega (arith, masks_long list count))

pub masks_get : (list : List ℕ) (count j : ℕ) → j < count → get_or (masks_in list count) j 0 ≡ mask_at list j
unfolding masks_in
masks_get list zero j l = absurd (omega arith)
masks_get list (suc count) j l = go (ℕ_discrete j count) (masks_get list count j)
  where
    go : Dec (j ≡ count) → (j < count → get_or (masks_in list count) j 0 ≡ mask_at list j) → get_or (masks_in list count ++ (mask_at list count ∷ [])) j 0 ≡ mask_at list j
    go (yes e) ih = rw e (get_or_at (masks_in list count) (mask_at list count) [] 0 count (masks_long list count))
    go (no e) ih = get_or-append (masks_in list count) (mask_at list count ∷ []) 0 j (omega (arith, masks_long list count)) ∙ ih (omega arith)

-- lists with the same masks
pub masks_ext : (a b : List ℕ) (count : ℕ) → ((j : ℕ) → j < count → mask_at a j ≡ mask_at b j) → masks_in a count ≡ masks_in b count
unfolding masks_in
masks_ext a b zero f = refl
masks_ext a b (suc count) f = ap₂ (λ (cs : List ℕ) (c : ℕ). cs ++ (c ∷ [])) (masks_ext a b count (λ j l. f j (omega arith))) (f count (omega arith))

-- ---- a mask that stands in a record has 32 bits

first_word : (c : ℕ) (rest : List ℕ) → mask_at (conflict_bytes c ++ rest) 0 < 2 ^ 32
unfolding record_bytes
first_word c rest =
    omega (
      arith,
      number_behind (78 ∷ 71 ∷ []) (bytes 4 c ++ rest) 2 0 4 refl,
      number_append (bytes 4 c) rest 0 4 (omega (arith, bytes_length 4 c)),
      number_lt (bytes 4 c) 0 4 (bytes_bound 4 c),
    )

record_word : (cs rest : List ℕ) (j : ℕ) → j < length cs → mask_at (records cs ++ rest) j < 2 ^ 32
unfolding records
record_word [] rest j l = absurd (omega arith)
record_word (c ∷ cs) rest zero l = rw append_assoc (first_word c (records cs ++ rest))
record_word (c ∷ cs) rest (suc j) l =
    let next : mask_at (conflict_bytes c ++ records cs ++ rest) (suc j) ≡ mask_at (records cs ++ rest) j
    = ap (λ (s : List ℕ). number s (6 * suc j + 2) 4) (append_assoc (conflict_bytes c) (records cs) rest)
    ∙ ap (λ (k : ℕ). number (conflict_bytes c ++ (records cs ++ rest)) k 4) (omega arith)
    ∙ number_behind (conflict_bytes c) (records cs ++ rest) 6 (6 * j + 2) 4 (record_length (78 ∷ 71 ∷ []) c) in
    rw next (record_word cs rest j (omega arith))

module _ {s : Tasks} {count : ℕ} {list : List ℕ} (w : Nogoods s list count) where
  pub mask_word : (j : ℕ) → j < count → mask_at list j < 2 ^ 32
  mask_word j l =
      omega (
        arith,
        ap (λ (x : List ℕ). mask_at x j) w.written,
        record_word (masks_in list count) (drop (6 * count) list) j (omega (arith, masks_long list count)),
      )

  -- the list as the answer's layout has it, where it held old
  listing_over : (old : List ℕ) → drop (6 * count) list ≡ drop (6 * count) old → length list ≡ length old → Listing old (masks_in list count) list
  listing_over old e q = record {
    holds = rw (masks_long list count) (w.written ∙ ap (λ (rest : List ℕ). records (masks_in list count) ++ rest) e);
    room = omega (arith, masks_long list count);
    words = λ j. word j (dec_lt j count);
  }
    where
      word : (j : ℕ) → Dec (j < count) → get_or (masks_in list count) j 0 < 2 ^ 32
      word j (yes l) = rw (masks_get list count j l) (mask_word j l)
      word j (no l) = omega (arith, get_or-eq_default (masks_in list count) 0 {n = j} (omega (arith, masks_long list count)))

  pub listing_of : Listing list (masks_in list count) list
  listing_of = listing_over list refl refl

pub listing_grown : {P : ℕ → Type 0} {s : Tasks} {old list : List ℕ} {before count : ℕ} → Extended P s old before list count → Listing old (masks_in list count) list
listing_grown {old = old} x = listing_over x.nogoods old x.grows.behind x.grows.long
