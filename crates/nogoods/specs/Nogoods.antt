-- The list of conflicts while the search runs: the first `count` records in the part of the answer after the head.
use Rattle.std.specs.Prelude.{◌≡◌, Bool, true, false, ◌&&◌, cond, ◌⊎◌, List, [], ◌∷◌, ◌++◌, ℕ, zero, suc, ◌+◌, ◌*◌, ◌/◌, ◌%◌, ◌≤◌, ◌<◌, T, eqb, ltb, length, get_or, set, drop}
use mir.Val.{bool_byte}
use Rattle.finite.specs.Finite.{some_below, first_below}
use Rattle.mask.specs.Mask.{has, within, Subset}
use Rattle.schedule.specs.Periodic.{Tasks, LateSet}
use Rattle.schedule.specs.Response.{late_test}
use Rattle.conflict.specs.Conflict.{Minimal}
use Rattle.wire.specs.Wire.{laid}
use Rattle.answer.specs.Answer.{conflict_bytes, records, mask_at, is_listed}
use Rattle.late_cache.specs.LateCache.{LateCache, place_of, with_verdict}
use Rattle.nogoods.specs.declared.Mode.{Mode}
use Rattle.nogoods.specs.declared.Tested.{Tested}

-- the masks of the first `count` records
unfoldable pub masks_in : List ℕ → ℕ → List ℕ
masks_in list zero = []
masks_in list (suc count) = masks_in list count ++ (mask_at list count ∷ [])

-- one of the listed conflicts lies within the set x
pub record Covered (list : List ℕ) (count : ℕ) (x : ℕ → Bool) : Type 0 where
  pub number : ℕ
  pub listed : number < count
  pub inside : (k : ℕ) → T (has (mask_at list number) k) → T (x k)

-- what holds of the list at all times: room for its records and the end, the records' bytes; each conflict minimal, all different
pub record Nogoods (s : Tasks) (list : List ℕ) (count : ℕ) : Type 0 where
  pub room : 6 * count + 3 ≤ length list
  pub written : list ≡ records (masks_in list count) ++ drop (6 * count) list
  pub minimal : (j : ℕ) → j < count → Minimal s (mask_at list j)
  pub different : (i j : ℕ) → i < count → j < count → mask_at list i ≡ mask_at list j → i ≡ j

-- the list is full: one more record and the end do not fit
abbrev pub full : List ℕ → ℕ → Bool
full list count = ltb (length list) (6 * count + 9)

-- a conflict goes behind the listed ones unless it is one of them (02, 2026-03): how many are listed then, and the list
abbrev pub count_with : List ℕ → ℕ → ℕ → ℕ
count_with list count c = cond (is_listed list count c) count (count + 1)

abbrev pub list_with : List ℕ → ℕ → ℕ → List ℕ
list_with list count c = cond (is_listed list count c) list (laid (6 * count) (conflict_bytes c) list)

-- from old to new the listed conflicts stay, P is true of each one more, and so do the bytes behind them
pub record Grows (P : ℕ → Type 0) (old : List ℕ) (before : ℕ) (new : List ℕ) (count : ℕ) : Type 0 where
  pub more : before ≤ count
  pub stay : (j : ℕ) → j < before → mask_at new j ≡ mask_at old j
  pub added : (j : ℕ) → before ≤ j → j < count → P (mask_at new j)
  pub behind : drop (6 * count) new ≡ drop (6 * count) old
  pub long : length new ≡ length old

-- the list holds, and has grown from old to new
pub record Extended (P : ℕ → Type 0) (s : Tasks) (old : List ℕ) (before : ℕ) (new : List ℕ) (count : ℕ) : Type 0 where
  pub nogoods : Nogoods s new count
  pub grows : Grows P old before new count

-- the search that lists nothing, with a limit or without one; and the one that lists conflicts, which has none
abbrev pub quiet : Bool → Mode
quiet limited = record { listing = false; limited = limited }

abbrev pub lists : Mode
lists = record { listing = true; limited = false }

-- why a set may not stand on a processor: it is late; where conflicts are listed, one of them says so
abbrev pub Bad : Tasks → Bool → List ℕ → ℕ → (ℕ → Bool) → Type 0
Bad s false list count x = LateSet s x
Bad s true list count x = Covered list count x

-- why it may: it is not late; or, where conflicts are listed, the list is full and none of it says otherwise
abbrev pub Clear : Tasks → Bool → List ℕ → ℕ → (ℕ → Bool) → Type 0
Clear s false list count x = LateSet s x → ⊥
Clear s true list count x = (LateSet s x → ⊥) ⊎ (T (full list count) × (Covered list count x → ⊥))

-- the verdict on a set, with the list as it is afterwards
abbrev pub Verdict : Bool → Tasks → Bool → List ℕ → ℕ → (ℕ → Bool) → Type 0
Verdict true s listing list count x = Bad s listing list count x
Verdict false s listing list count x = Clear s listing list count x

-- one of the listed conflicts lies within the set x, as a test
abbrev pub covered_by : List ℕ → ℕ → ℕ → Bool
covered_by list count x = some_below count (λ j. within (mask_at list j) x)

-- ---- the words behind the cached sets: with a list that can still grow they are hints, with a full one they are a table of covered sets

-- the word for a set
abbrev pub word_of : ℕ → ℕ
word_of x = 65536 + place_of x / 4

-- the words after a look for a listed conflict within the set x, with a list that can still grow. A hint is the number of a conflict, to 24 bits.
-- It is as it was where it names a conflict within x, else it is the number of the first one, and the count where there is none.
unfoldable pub hinted : List ℕ → List ℕ → ℕ → ℕ → List ℕ
hinted lateness list count x =
    let hint = get_or lateness (word_of x) 0 % 16777216 in
    cond (ltb hint count && within (mask_at list hint) x) lateness (set lateness (word_of x) (first_below count (λ j. within (mask_at list j) x) % 16777216))

-- what a word of the table says: it is twice a set, and one more where a listed conflict lies within the set; 0 says nothing
abbrev pub TellsCovered : List ℕ → ℕ → ℕ → Type 0
TellsCovered list count word = 0 < word → covered_by list count (word / 2) ≡ eqb (word % 2) 1

-- the last word is 1 where there is a table: only with a full list, which no longer changes, so that each word is true by itself
pub record CoverCache (list : List ℕ) (count : ℕ) (lateness : List ℕ) : Type 0 where
  pub full_list : get_or lateness 81920 0 ≡ 1 → T (full list count)
  pub tells : get_or lateness 81920 0 ≡ 1 → (j : ℕ) → j < 16384 → TellsCovered list count (get_or lateness (65536 + j) 0)

-- the first n of these words are 0
unfoldable pub cleared : List ℕ → ℕ → List ℕ
cleared lateness zero = lateness
cleared lateness (suc n) = set (cleared lateness n) (65536 + n) 0

-- there is a table: the one that was there, or an empty one
unfoldable pub opened : List ℕ → List ℕ
opened lateness = cond (eqb (get_or lateness 81920 0) 1) lateness (set (cleared lateness 16384) 81920 1)

-- the table after a look for a listed conflict within the set x: as it was where its word has the set, else with that word anew
unfoldable pub tabled : List ℕ → List ℕ → ℕ → ℕ → List ℕ
tabled lateness list count x =
    let word = get_or lateness (word_of x) 0 in
    cond (ltb 0 word && eqb (word / 2) x) lateness (set lateness (word_of x) (2 * x + bool_byte (covered_by list count x)))

-- the words after a look for a listed conflict within the set x
abbrev pub looked_for : List ℕ → List ℕ → ℕ → ℕ → List ℕ
looked_for lateness list count x = cond (full list count) (tabled (opened lateness) list count x) (hinted lateness list count x)

-- what is known of sets: whether they are late, and whether they hold a listed conflict
pub record KnownSets (s : Tasks) (list : List ℕ) (count : ℕ) (lateness : List ℕ) : Type 0 where
  pub late : LateCache s lateness
  pub covers : CoverCache list count lateness

-- the answer of the test by what it asks in turn: is the set late, are conflicts listed, does one of them lie within it, is the list full
abbrev pub test_by : Bool → Bool → Bool → Bool → ℕ → Tested
test_by false listing covered full count = record { bad = false; count = count }
test_by true false covered full count = record { bad = true; count = count }
test_by true true true full count = record { bad = true; count = count }
test_by true true false true count = record { bad = false; count = count }
test_by true true false false count = record { bad = true; count = count + 1 }

unfoldable pub test_of : Tasks → Mode → ℕ → List ℕ → ℕ → Tested
test_of s mode x list count = test_by (late_test s (has x)) mode.listing (covered_by list count x) (full list count) count

-- the cache of tested sets after the test: the set is asked for; where it is late and conflicts are listed, one within it is looked for
unfoldable pub cache_after : Tasks → Mode → ℕ → List ℕ → ℕ → List ℕ → List ℕ
cache_after s mode x list count lateness =
    let late = late_test s (has x) in
    cond (late && mode.listing) (looked_for (with_verdict lateness x late) list count x) (with_verdict lateness x late)

-- what the test of a set leaves: a list that may have grown by a conflict within the set, and the verdict
pub record Noted (s : Tasks) (mode : Mode) (set : ℕ) (old : List ℕ) (before : ℕ) (new : List ℕ) (r : Tested) : Type 0 where
  pub value : r ≡ test_of s mode set old before
  pub bytes : new ≡ cond (eqb r.count before) old (laid (6 * before) (conflict_bytes (mask_at new before)) old)
  pub list : Extended (λ c. Subset c set) s old before new r.count
  pub verdict : Verdict r.bad s mode.listing new r.count (has set)
