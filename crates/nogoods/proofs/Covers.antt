-- The words behind the cached sets: hints, or with a full list a table of covered sets. What a look at them leaves. Assumes nothing.
use mathlib.Core.Path.{◌≡◌, refl, sym, ap, subst, ◌∙◌}
use mathlib.Core.Bool.{Bool, true, false, ◌&&◌, cond}
use mathlib.Core.List.{List}
use Prim.Native.Nat.{ℕ, zero, suc, ◌+◌, ◌*◌, ◌/◌, ◌%◌, ◌≤◌, ◌<◌}
use native.Mathlib.Decide.{ℕ_discrete, dec_lt}
use native.Mathlib.Omega.{arith}
use borrow.Author.Tests.{eq-eqb, ne_eqb, lt-ltb, eqb-true}
use mir.Val.{bool_byte}
use lib.Dec.{T, eqb, ltb}
use lib.ListN.{length, get_or, set, get_or-eq_default}
use lib.Seq.{get_or-set_same, get_or-set_other, set_out}
use Rattle.finite.specs.Finite.{first_below}
use Rattle.finite.proofs.Some.{some_ext}
use Rattle.mask.specs.Mask.{within}
use Rattle.schedule.specs.Periodic.{Tasks}
use Rattle.answer.specs.Answer.{mask_at}
use Rattle.late_cache.specs.LateCache.{LateCache, place_of, with_verdict}
use Rattle.late_cache.proofs.Laws.{late_cache_behind}
use Rattle.nogoods.specs.Nogoods.{full, Extended, covered_by, word_of, hinted, TellsCovered, CoverCache, cleared, opened, tabled, looked_for, KnownSets}
use Rattle.nogoods.proofs.Growth.{full_stays}

-- where a word stands
word_low : (x : ℕ) → place_of x / 4 < 16384
word_low x = omega arith

-- ---- an empty table

set_zero : (l : List ℕ) (i : ℕ) → get_or (set l i 0) i 0 ≡ 0
set_zero l i = go (dec_lt i (length l))
  where
    go : Dec (i < length l) → get_or (set l i 0) i 0 ≡ 0
    go (yes h) = get_or-set_same l i 0 0 h
    go (no h) = rw (set_out l i 0 (omega arith)) (get_or-eq_default l 0 {n = i} (omega arith))

cleared_zero : (lateness : List ℕ) (n j : ℕ) → j < n → get_or (cleared lateness n) (65536 + j) 0 ≡ 0
unfolding cleared
cleared_zero lateness zero j l = absurd (omega arith)
cleared_zero lateness (suc n) j l = go (λ b. cleared_zero lateness n j b) (ℕ_discrete j n)
  where
    go : (j < n → get_or (cleared lateness n) (65536 + j) 0 ≡ 0) → Dec (j ≡ n) → get_or (set (cleared lateness n) (65536 + n) 0) (65536 + j) 0 ≡ 0
    go below (yes e) = rw e (set_zero (cleared lateness n) (65536 + n))
    go below (no e) = get_or-set_other (cleared lateness n) (65536 + n) (65536 + j) 0 0 (λ q. e (omega arith)) ∙ below (omega arith)

cleared_late : {s : Tasks} {lateness : List ℕ} → LateCache s lateness → (n : ℕ) → LateCache s (cleared lateness n)
unfolding cleared
cleared_late k zero = k
cleared_late k (suc n) = late_cache_behind (cleared_late k n) 0 (omega arith)

-- ---- a table is there

-- a new table says nothing yet
new_tells : (list : List ℕ) (count : ℕ) (lateness : List ℕ) (j : ℕ) → j < 16384 → TellsCovered list count (get_or (set (cleared lateness 16384) 81920 1) (65536 + j) 0)
new_tells list count lateness j l p = absurd (omega (arith, get_or-set_other (cleared lateness 16384) 81920 (65536 + j) 1 0 (λ q. omega arith) ∙ cleared_zero lateness 16384 j l))

covers_new : {list : List ℕ} {count : ℕ} (lateness : List ℕ) → T (full list count) → CoverCache list count (set (cleared lateness 16384) 81920 1)
covers_new {list} {count} lateness f = record { full_list = λ e. f; tells = λ e. new_tells list count lateness }

covers_opened : {list lateness : List ℕ} {count : ℕ} → T (full list count) → CoverCache list count lateness → CoverCache list count (opened lateness)
unfolding opened
covers_opened {list} {lateness} {count} f k = go (eqb (get_or lateness 81920 0) 1)
  where
    go : (b : Bool) → CoverCache list count (cond b lateness (set (cleared lateness 16384) 81920 1))
    go true = k
    go false = covers_new lateness f

pub opened_there : (lateness : List ℕ) → get_or lateness 81920 0 ≡ 1 → lateness ≡ opened lateness
unfolding opened
opened_there lateness e = rw (eq-eqb _ 1 e) refl

pub opened_new : (lateness : List ℕ) → (get_or lateness 81920 0 ≡ 1 → ⊥) → set (cleared lateness 16384) 81920 1 ≡ opened lateness
unfolding opened
opened_new lateness e = rw (ne_eqb _ 1 e) refl

-- and what it says is so
pub opened_tells : {list lateness : List ℕ} {count : ℕ} → CoverCache list count lateness → (x : ℕ) → TellsCovered list count (get_or (opened lateness) (word_of x) 0)
unfolding opened
opened_tells {list} {lateness} {count} k x = go (ℕ_discrete (get_or lateness 81920 0) 1)
  where
    go : Dec (get_or lateness 81920 0 ≡ 1) → TellsCovered list count (get_or (cond (eqb (get_or lateness 81920 0) 1) lateness (set (cleared lateness 16384) 81920 1)) (word_of x) 0)
    go (yes e) = rw (eq-eqb _ 1 e) (k.tells e (place_of x / 4) (word_low x))
    go (no e) = rw (ne_eqb _ 1 e) (new_tells list count lateness (place_of x / 4) (word_low x))

-- ---- the word of a set

module _ (lateness list : List ℕ) (count x : ℕ) {at : ℕ} (e : at ≡ word_of x) where
  abbrev word : ℕ
  word = get_or lateness at 0

  abbrev hint : ℕ
  hint = word % 16777216

  pub hinted_hit : hint < count → within (mask_at list hint) x ≡ true → lateness ≡ hinted lateness list count x
  unfolding hinted
  hinted_hit l w = rw (← e, lt-ltb _ count l, w) refl

  pub hinted_miss : {n : ℕ} → (ltb hint count && within (mask_at list hint) x) ≡ false → n ≡ first_below count (λ i. within (mask_at list i) x)
      → set lateness at (n % 16777216) ≡ hinted lateness list count x
  unfolding hinted
  hinted_miss miss first = rw (← e, miss, first) refl

  pub tabled_hit : 0 < word → eqb (word / 2) x ≡ true → lateness ≡ tabled lateness list count x
  unfolding tabled
  tabled_hit l w = rw (← e, lt-ltb 0 _ l, w) refl

  pub tabled_miss : {found : Bool} → (ltb 0 word && eqb (word / 2) x) ≡ false → found ≡ covered_by list count x
      → set lateness at (2 * x + bool_byte found) ≡ tabled lateness list count x
  unfolding tabled
  tabled_miss miss found = rw (← e, miss, found) refl

  -- what a word of the table says is so
  pub tabled_true : TellsCovered list count word → 0 < word → eqb (word / 2) x ≡ true → eqb (word % 2) 1 ≡ covered_by list count x
  tabled_true tells l w = rw (← eqb-true (word / 2) x w) (sym (tells l))

-- ---- what the look leaves is true

word_tells : (list : List ℕ) (count x : ℕ) → TellsCovered list count (2 * x + bool_byte (covered_by list count x))
word_tells list count x l = go (covered_by list count x) refl
  where
    go : (b : Bool) → covered_by list count x ≡ b → covered_by list count ((2 * x + bool_byte b) / 2) ≡ eqb ((2 * x + bool_byte b) % 2) 1
    go true e =
        let half : (2 * x + 1) / 2 ≡ x = omega arith in
        let odd : (2 * x + 1) % 2 ≡ 1 = omega arith in
        rw (odd, half) e
    go false e =
        let half : (2 * x + 0) / 2 ≡ x = omega arith in
        let even : (2 * x + 0) % 2 ≡ 0 = omega arith in
        rw (even, half) e

module _ {list lateness : List ℕ} {count : ℕ} where
  -- a true word may be written anywhere before the last
  covers_set : CoverCache list count lateness → (i v : ℕ) → i < 16384 → TellsCovered list count v → CoverCache list count (set lateness (65536 + i) v)
  covers_set k i v low true-word = record {
    full_list = λ e. k.full_list (flag e);
    tells = λ e j l. go j l (flag e) (ℕ_discrete j i) (dec_lt (65536 + i) (length lateness));
  }
    where
      flag : get_or (set lateness (65536 + i) v) 81920 0 ≡ 1 → get_or lateness 81920 0 ≡ 1
      flag e = sym (get_or-set_other lateness (65536 + i) 81920 v 0 (λ q. omega arith)) ∙ e

      go : (j : ℕ) → j < 16384 → get_or lateness 81920 0 ≡ 1 → Dec (j ≡ i) → Dec (65536 + i < length lateness) → TellsCovered list count (get_or (set lateness (65536 + i) v) (65536 + j) 0)
      go j l e (yes q) (yes b) = rw (q, get_or-set_same lateness (65536 + i) v 0 b) true-word
      go j l e (yes q) (no b) = rw (set_out lateness (65536 + i) v (omega arith)) (k.tells e j l)
      go j l e (no q) b = rw (get_or-set_other lateness (65536 + i) (65536 + j) v 0 (λ z. q (omega arith))) (k.tells e j l)

  -- without a table anything
  covers_none : CoverCache list count lateness → (T (full list count) → ⊥) → (i v : ℕ) → i < 16384 → CoverCache list count (set lateness (65536 + i) v)
  covers_none k f i v low = record {
    full_list = λ e. k.full_list (flag e);
    tells = λ e. absurd (f (k.full_list (flag e)));
  }
    where
      flag : get_or (set lateness (65536 + i) v) 81920 0 ≡ 1 → get_or lateness 81920 0 ≡ 1
      flag e = sym (get_or-set_other lateness (65536 + i) 81920 v 0 (λ q. omega arith)) ∙ e

  covers_hinted : CoverCache list count lateness → (T (full list count) → ⊥) → (x : ℕ) → CoverCache list count (hinted lateness list count x)
  unfolding hinted
  covers_hinted k f x = go (ltb (get_or lateness (word_of x) 0 % 16777216) count && within (mask_at list (get_or lateness (word_of x) 0 % 16777216)) x)
    where
      go : (b : Bool) → CoverCache list count (cond b lateness (set lateness (word_of x) (first_below count (λ j. within (mask_at list j) x) % 16777216)))
      go true = k
      go false = covers_none k f (place_of x / 4) _ (word_low x)

  covers_tabled : CoverCache list count lateness → (x : ℕ) → CoverCache list count (tabled lateness list count x)
  unfolding tabled
  covers_tabled k x = go (ltb 0 (get_or lateness (word_of x) 0) && eqb (get_or lateness (word_of x) 0 / 2) x)
    where
      go : (b : Bool) → CoverCache list count (cond b lateness (set lateness (word_of x) (2 * x + bool_byte (covered_by list count x))))
      go true = k
      go false = covers_set k (place_of x / 4) _ (word_low x) (word_tells list count x)

pub covers_looked : {list lateness : List ℕ} {count : ℕ} → CoverCache list count lateness → (x : ℕ) → CoverCache list count (looked_for lateness list count x)
covers_looked {list} {lateness} {count} k x = go (full list count) refl
  where
    go : (b : Bool) → full list count ≡ b → CoverCache list count (cond b (tabled (opened lateness) list count x) (hinted lateness list count x))
    go true e = covers_tabled (covers_opened (rw e tt) k) x
    go false e = covers_hinted k (λ f. rw e at f) x

-- the words for sets stay true
module _ {s : Tasks} {lateness : List ℕ} (k : LateCache s lateness) (list : List ℕ) (count x : ℕ) where
  late_hinted : LateCache s (hinted lateness list count x)
  unfolding hinted
  late_hinted = go (ltb (get_or lateness (word_of x) 0 % 16777216) count && within (mask_at list (get_or lateness (word_of x) 0 % 16777216)) x)
    where
      go : (b : Bool) → LateCache s (cond b lateness (set lateness (word_of x) (first_below count (λ j. within (mask_at list j) x) % 16777216)))
      go true = k
      go false = late_cache_behind k _ (omega arith)

  late_tabled : LateCache s (tabled lateness list count x)
  unfolding tabled
  late_tabled = go (ltb 0 (get_or lateness (word_of x) 0) && eqb (get_or lateness (word_of x) 0 / 2) x)
    where
      go : (b : Bool) → LateCache s (cond b lateness (set lateness (word_of x) (2 * x + bool_byte (covered_by list count x))))
      go true = k
      go false = late_cache_behind k _ (omega arith)

late_opened : {s : Tasks} {lateness : List ℕ} → LateCache s lateness → LateCache s (opened lateness)
unfolding opened
late_opened {s} {lateness} k = go (eqb (get_or lateness 81920 0) 1)
  where
    go : (b : Bool) → LateCache s (cond b lateness (set (cleared lateness 16384) 81920 1))
    go true = k
    go false = late_cache_behind (cleared_late k 16384) 1 (omega arith)

pub late_looked : {s : Tasks} {lateness : List ℕ} → LateCache s lateness → (list : List ℕ) (count x : ℕ) → LateCache s (looked_for lateness list count x)
late_looked {s} {lateness} k list count x = go (full list count)
  where
    go : (b : Bool) → LateCache s (cond b (tabled (opened lateness) list count x) (hinted lateness list count x))
    go true = late_tabled (late_opened k) list count x
    go false = late_hinted k list count x

-- ---- what is known of sets

-- a full list no longer changes
covers_grows : {P : ℕ → Type 0} {s : Tasks} {a b lateness : List ℕ} {i j : ℕ} → Extended P s a i b j → CoverCache a i lateness → CoverCache b j lateness
covers_grows {a = a} {b} {lateness} {i} {j} u k = record {
  full_list = λ e. rw (u.grows.long, ← full_stays u (k.full_list e)) (k.full_list e);
  tells = λ e n l p. same (full_stays u (k.full_list e)) (get_or lateness (65536 + n) 0 / 2) ∙ k.tells e n l p;
}
  where
    same : i ≡ j → (x : ℕ) → covered_by b j x ≡ covered_by a i x
    same q x = rw (← q) (some_ext i _ _ (λ n l. ap (λ (m : ℕ). within m x) (u.grows.stay n l)))

pub known_grows : {P : ℕ → Type 0} {s : Tasks} {a b lateness : List ℕ} {i j : ℕ} → Extended P s a i b j → KnownSets s a i lateness → KnownSets s b j lateness
known_grows u k = record { late = k.late; covers = covers_grows u k.covers }

-- once a set was asked for
covers_verdict : {list lateness : List ℕ} {count : ℕ} → CoverCache list count lateness → (x : ℕ) (late : Bool) → CoverCache list count (with_verdict lateness x late)
unfolding with_verdict
covers_verdict {list} {lateness} {count} k x late = go (eqb (get_or lateness (place_of x) 0 / 2) x)
  where
    v : ℕ
    v = 2 * x + bool_byte late

    stays : (i : ℕ) → 65536 ≤ i → get_or (set lateness (place_of x) v) i 0 ≡ get_or lateness i 0
    stays i h = get_or-set_other lateness (place_of x) i v 0 (λ q. omega arith)

    go : (b : Bool) → CoverCache list count (cond b lateness (set lateness (place_of x) v))
    go true = k
    go false = record {
      full_list = λ e. k.full_list (sym (stays 81920 (omega arith)) ∙ e);
      tells = λ e j l. rw (stays (65536 + j) (omega arith)) (k.tells (sym (stays 81920 (omega arith)) ∙ e) j l);
    }

module _ {s : Tasks} {list old lateness : List ℕ} {count : ℕ} (k : KnownSets s list count old) (x : ℕ) where
  pub known_verdict : (late : Bool) → LateCache s lateness → lateness ≡ with_verdict old x late → KnownSets s list count lateness
  known_verdict late l e = record { late = l; covers = rw e (covers_verdict k.covers x late) }

  pub known_looked : lateness ≡ looked_for old list count x → KnownSets s list count lateness
  known_looked e = record { late = rw e (late_looked k.late list count x); covers = rw e (covers_looked k.covers x) }

-- where the table was given up, any list may follow
pub known_forgot : {s : Tasks} {old lateness : List ℕ} → LateCache s old → lateness ≡ set old 81920 0 → (list : List ℕ) (count : ℕ) → KnownSets s list count lateness
known_forgot {old = old} k e list count = rw e (record {
  late = late_cache_behind k 0 (omega arith);
  covers = record { full_list = λ q. absurd (omega (arith, set_zero old 81920)); tells = λ q. absurd (omega (arith, set_zero old 81920)) };
})
