-- One conflict more in the list, unless it is listed; and none at its start. Assumes nothing.
use mathlib.Core.Path.{◌≡◌, refl, sym, ap, ap₂, ◌∙◌}
use mathlib.Core.Bool.{Bool, true, false, cond}
use mathlib.Core.List.{List, [], ◌∷◌, ◌++◌}
use Prim.Native.Nat.{ℕ, ◌+◌, ◌*◌, ◌^◌, ◌≤◌, ◌<◌}
use native.Mathlib.Decide.{dec_lt}
use native.Mathlib.Numerals.{add-one}
use native.Mathlib.Omega.{arith}
use borrow.Author.Tests.{eq-eqb, ne_eqb, le-ltb}
use lib.Dec.{T, eqb, eqb→eq}
use lib.ListN.{length, take, drop, take-append-drop}
use lib.Seq.{length-take-le, drop_at, drop-drop}
use Rattle.finite.proofs.Some.{some_intro, some_elim}
use Rattle.wire.specs.Wire.{Bytes, record_bytes, laid}
use Rattle.wire.proofs.Laws.{number_at, number_append, number_behind, record_length}
use Rattle.mask.specs.Mask.{has, Subset}
use Rattle.schedule.specs.Periodic.{Tasks}
use Rattle.schedule.specs.Response.{late_test}
use Rattle.conflict.specs.Conflict.{Minimal, MinimalWithin}
use Rattle.answer.specs.Answer.{conflict_bytes, records, mask_at, is_listed, Listing}
use Rattle.answer.proofs.Laws.{listed_masks, listing_append, listing_length}
use Rattle.nogoods.specs.declared.Mode.{Mode}
use Rattle.nogoods.specs.Nogoods.{masks_in, Covered, Nogoods, count_with, list_with, Grows, Extended, covered_by, Noted}
use Rattle.nogoods.proofs.Masks.{masks_long, masks_ext, listing_of}
use Rattle.nogoods.proofs.Growth.{extended_refl, covered_no}
use Rattle.nogoods.proofs.Testing.{test_is}

pub nogoods_start : {s : Tasks} {list : List ℕ} → 3 ≤ length list → Nogoods s list 0
unfolding masks_in records
nogoods_start h = record {
  room = h;
  written = refl;
  minimal = λ j l. absurd (omega arith);
  different = λ i j l. absurd (omega arith);
}

-- ---- one conflict more

module _ {s : Tasks} {count m : ℕ} {list new : List ℕ} (w : Nogoods s list count) (free : 6 * count + 9 ≤ length list) (fits : m < 2 ^ 32)
    (e : new ≡ laid (6 * count) (conflict_bytes m) list) where
  abbrev front : List ℕ
  front = take (6 * count) list

  abbrev later : List ℕ
  later = drop (6 * count + 6) list

  parts : new ≡ front ++ (conflict_bytes m ++ later)
  unfolding laid
  parts = e ∙ ap (λ (k : ℕ). front ++ (conflict_bytes m ++ drop (6 * count + k) list)) (record_length (78 ∷ 71 ∷ []) m)

  front_length : length front ≡ 6 * count
  front_length = length-take-le (6 * count) list (omega arith)

  mask_stays : (j : ℕ) → j < count → mask_at new j ≡ mask_at list j
  mask_stays j l =
      ap (λ (x : List ℕ). mask_at x j) parts
      ∙ number_append front (conflict_bytes m ++ later) (6 * j + 2) 4 (omega (arith, front_length))
      ∙ sym (number_append front (drop (6 * count) list) (6 * j + 2) 4 (omega (arith, front_length)))
      ∙ ap (λ (x : List ℕ). mask_at x j) (take-append-drop (6 * count) list)

  mask_appended : mask_at new count ≡ m
  unfolding record_bytes
  mask_appended =
      ap (λ (x : List ℕ). mask_at x count) parts
      ∙ number_behind front (conflict_bytes m ++ later) (6 * count) 2 4 front_length
      ∙ number_at (78 ∷ 71 ∷ []) later 4 m 2 refl fits

  list_appended : new ≡ cond (eqb (count + 1) count) list (laid (6 * count) (conflict_bytes (mask_at new count)) list)
  list_appended = rw (ne_eqb (count + 1) count (λ q. omega arith), mask_appended) e

  rest_stays : drop (6 * (count + 1)) new ≡ drop (6 * (count + 1)) list
  rest_stays =
      let k : 6 * (count + 1) ≡ 6 * count + 6 = omega arith in
      rw k
      (sym (drop-drop 6 (6 * count) new)
      ∙ ap (λ (x : List ℕ). drop 6 (drop (6 * count) x)) parts
      ∙ ap (drop 6) (drop_at front (conflict_bytes m ++ later) (6 * count) front_length)
      ∙ drop_at (conflict_bytes m) later 6 (record_length (78 ∷ 71 ∷ []) m))

  masks_appended : masks_in list count ++ (m ∷ []) ≡ masks_in new (count + 1)
  unfolding masks_in
  masks_appended = rw add-one (sym (ap₂ (λ (cs : List ℕ) (c : ℕ). cs ++ (c ∷ [])) (masks_ext new list count mask_stays) mask_appended))

  listing : Listing list (masks_in new (count + 1)) new
  listing = rw masks_appended at (listing_append (listing_of w) (sym (masks_long list count)) (omega arith) fits e)

  grows_append : {P : ℕ → Type 0} → P m → Grows P list count new (count + 1)
  grows_append {P} p = record {
    more = omega arith;
    stay = mask_stays;
    added = λ j a b. let q : j ≡ count = omega arith in rw (q, mask_appended) p;
    behind = rest_stays;
    long = listing_length listing;
  }

  nogoods_append : {set : ℕ} → MinimalWithin s set m → ((j : ℕ) → j < count → mask_at list j ≡ m → ⊥) → Nogoods s new (count + 1)
  nogoods_append c others = record {
    room = omega (arith, listing_length listing);
    written = listing.holds ∙ ap (λ (rest : List ℕ). records (masks_in new (count + 1)) ++ rest) (rw (masks_long new (count + 1)) (sym rest_stays));
    minimal = λ j l. minimal j l (dec_lt j count);
    different = λ i j a b q. different i j a b q (dec_lt i count) (dec_lt j count);
  }
    where
      last : (j : ℕ) → j < count + 1 → (j < count → ⊥) → mask_at new j ≡ m
      last j l f = let q : j ≡ count = omega arith in rw q mask_appended

      other : (j : ℕ) → j < count → mask_at new j ≡ m → ⊥
      other j l q = others j l (sym (mask_stays j l) ∙ q)

      minimal : (j : ℕ) → j < count + 1 → Dec (j < count) → Minimal s (mask_at new j)
      minimal j l (yes f) = rw (mask_stays j f) (w.minimal j f)
      minimal j l (no f) = rw (last j l f) c.minimal

      different : (i j : ℕ) → i < count + 1 → j < count + 1 → mask_at new i ≡ mask_at new j → Dec (i < count) → Dec (j < count) → i ≡ j
      different i j a b q (yes f) (yes g) = w.different i j f g (sym (mask_stays i f) ∙ q ∙ mask_stays j g)
      different i j a b q (yes f) (no g) = absurd (other i f (q ∙ last j b g))
      different i j a b q (no f) (yes g) = absurd (other j g (sym q ∙ last i a f))
      different i j a b q (no f) (no g) = omega arith

  covered_append : {x : ℕ → Bool} → ((k : ℕ) → T (has m k) → T (x k)) → Covered new (count + 1) x
  covered_append f = record { number = count; listed = omega arith; inside = λ k t. f k (rw mask_appended at t) }

-- ---- a conflict that may be listed (02, 2026-03)

module _ (list : List ℕ) (count m : ℕ) (bytes : Bytes list) (fits : m < 2 ^ 32) where
  -- what is not listed differs from each listed conflict
  unlisted_differs : is_listed list count m ≡ false → (j : ℕ) → j < count → mask_at list j ≡ m → ⊥
  unlisted_differs e j l q = rw (← listed_masks list bytes count m fits, e) at (some_intro count (λ i. eqb (mask_at list i) m) j l (rw (eq-eqb (mask_at list j) m q) tt))

  -- what is listed covers each set that it lies within
  listed_covers : {x : ℕ → Bool} → is_listed list count m ≡ true → ((k : ℕ) → T (has m k) → T (x k)) → Covered list count x
  listed_covers e inside =
      let r = some_elim count (λ i. eqb (mask_at list i) m) (rw (← listed_masks list bytes count m fits, e) tt) in
      record { number = r.0; listed = r.1; inside = λ k t. inside k (rw (eqb→eq (mask_at list r.0) m r.2) at t) }

  -- it is appended where it lies within a set that no listed conflict lies within
  counted : {x : ℕ → Bool} → ((k : ℕ) → T (has m k) → T (x k)) → (Covered list count x → ⊥) → count_with list count m ≡ count + 1
  counted inside uncovered = go (is_listed list count m) refl
    where
      go : (b : Bool) → is_listed list count m ≡ b → cond b count (count + 1) ≡ count + 1
      go true e = absurd (uncovered (listed_covers e inside))
      go false e = refl

  module _ {s : Tasks} (w : Nogoods s list count) (free : 6 * count + 9 ≤ length list) where
    abbrev longer : List ℕ
    longer = laid (6 * count) (conflict_bytes m) list

    -- listed or not, the list holds with it: all different, as `listed` was asked
    extended_with : {set : ℕ} → MinimalWithin s set m → Extended (λ c. Subset c set) s list count (list_with list count m) (count_with list count m)
    extended_with {set} c = go (is_listed list count m) refl
      where
        go : (b : Bool) → is_listed list count m ≡ b → Extended (λ c. Subset c set) s list count (cond b list longer) (cond b count (count + 1))
        go true e = extended_refl w
        go false e = record { nogoods = nogoods_append w free fits refl c (unlisted_differs e); grows = grows_append w free fits refl c.inside }

    list_with_lem : list_with list count m ≡ cond (eqb (count_with list count m) count) list (laid (6 * count) (conflict_bytes (mask_at (list_with list count m) count)) list)
    list_with_lem = go (is_listed list count m)
      where
        go : (b : Bool) → cond b list longer ≡ cond (eqb (cond b count (count + 1)) count) list (laid (6 * count) (conflict_bytes (mask_at (cond b list longer) count)) list)
        go true = rw (eq-eqb count count refl) refl
        go false = list_appended w free fits refl

    covered_with : {x : ℕ → Bool} → ((k : ℕ) → T (has m k) → T (x k)) → Covered (list_with list count m) (count_with list count m) x
    covered_with {x} inside = go (is_listed list count m) refl
      where
        go : (b : Bool) → is_listed list count m ≡ b → Covered (cond b list longer) (cond b count (count + 1)) x
        go true e = listed_covers e inside
        go false e = covered_append w free fits refl inside

-- what the test of a late set leaves, once a minimal conflict within it was appended unless it was listed
pub noted_with : {s : Tasks} {list new : List ℕ} {count k m set : ℕ} → Nogoods s list count → (mode : Mode)
    → k ≡ count_with list count m → new ≡ list_with list count m → MinimalWithin s set m → Bytes list → m < 2 ^ 32 → 6 * count + 9 ≤ length list
    → true ≡ late_test s (has set) → true ≡ mode.listing → false ≡ covered_by list count set → Noted s mode set list count new (record { bad = true; count = k })
noted_with {s} {list} {new} {count} {k} {m} {set} w mode e q found bytes fits free late listing uncovered = record {
  value =
      ap (λ (j : ℕ). record { bad = true; count = j }) (e ∙ counted list count m bytes fits found.inside (covered_no list count set uncovered refl))
      ∙ test_is w mode set late listing uncovered (sym (le-ltb _ _ free));
  bytes = rw (e, q) (list_with_lem list count m bytes fits w free);
  list = rw (e, q) (extended_with list count m bytes fits w free found);
  verdict = rw (← listing, e, q) (covered_with list count m bytes fits w free found.inside);
}
