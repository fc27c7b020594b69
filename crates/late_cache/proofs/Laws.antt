-- Laws of the cache of tested sets: how it starts, what a word of it says, what may be written. Assumes nothing.
use mathlib.Core.Path.{◌≡◌, refl, sym, subst}
use mathlib.Core.Bool.{Bool, true, false, ◌&&◌}
use mathlib.Core.List.{List}
use Prim.Native.Nat.{ℕ, ◌+◌, ◌*◌, ◌/◌, ◌%◌, ◌^◌, ◌≤◌, ◌<◌}
use native.Mathlib.Nat.{lt_of_lt_of_le}
use native.Mathlib.Omega.{arith}
use native.Mathlib.Decide.{ℕ_discrete, dec_lt}
use borrow.Author.Tests.{eq-eqb, ne_eqb}
use mir.Val.{bool_byte}
use lib.Dec.{T, eqb, ltb→lt}
use lib.Pow.{pow_mono}
use lib.ListN.{length, get_or, set, replicate}
use lib.Seq.{get_or-set_same, get_or-set_other, set_out}
use Rattle.finite.specs.Finite.{only}
use Rattle.finite.proofs.Stored.{zeros}
use Rattle.mask.specs.Mask.{has}
use Rattle.mask.proofs.Laws.{has_zero}
use Rattle.schedule.specs.Periodic.{Tasks, LateSet}
use Rattle.schedule.specs.Arrays.{InLimits, Says}
use Rattle.late_cache.specs.LateCache.{LateCache, place_of, with_verdict}
use Rattle.schedule.specs.declared.Timing.{Timing}

-- a late set has a task
late_member : {s : Tasks} {on : ℕ → Bool} → LateSet s on → (k : ℕ) × T (on k)
late_member {s} {on} l = (l.task, member (on l.task) (eqb (l.tick % s.T l.task) 0) (s.C l.task) (omega (arith, l.late.unfinished_at)))
  where
    member : (b d : Bool) (work : ℕ) → 0 < only (b && d) work → T b
    member true d work h = tt
    member false d work h = omega arith

-- a set of tasks leaves room for its verdict in a word
pub small_set : {n x : ℕ} {rows : Timing} → InLimits n rows x → x < 2 ^ 24
small_set {n} {x} h = lt_of_lt_of_le (ltb→lt x (2 ^ n) h.inside) (pow_mono h.few)

pub bool_small : (b : Bool) → bool_byte b ≤ 1
bool_small true = omega arith
bool_small false = omega arith

-- what a word says of its set is so
abbrev Right : Tasks → ℕ → Type 0
Right s word = Says (eqb (word % 2) 1) (LateSet s (has (word / 2)))

-- at the start each word is 0, the empty set
pub late_cache_start : (s : Tasks) (n : ℕ) → LateCache s (replicate n 0)
late_cache_start s n = record {
  says = λ j l. subst (Right s) (sym (zeros n j)) (λ late. let m = late_member late in rw (has_zero m.0) at m.1);
}

-- the word for a set that was tested
right_word : (s : Tasks) (x : ℕ) (late : Bool) → Says late (LateSet s (has x)) → Right s (2 * x + bool_byte late)
right_word s x true h =
    let half : (2 * x + 1) / 2 ≡ x = omega arith in
    let odd : (2 * x + 1) % 2 ≡ 1 = omega arith in
    rw (odd, half) h
right_word s x false h =
    let half : (2 * x + 0) / 2 ≡ x = omega arith in
    let even : (2 * x + 0) % 2 ≡ 0 = omega arith in
    rw (even, half) h

module _ {s : Tasks} {lateness : List ℕ} (k : LateCache s lateness) where
  -- a word whose set is x tells whether x is late
  pub late_cache_hit : {j x : ℕ} → j < 65536 → get_or lateness j 0 / 2 ≡ x → Says (eqb (get_or lateness j 0 % 2) 1) (LateSet s (has x))
  late_cache_hit {j} l e = subst (λ (y : ℕ). Says (eqb (get_or lateness j 0 % 2) 1) (LateSet s (has y))) e (k.says j l)

  -- the verdict on a set may be written anywhere
  pub late_cache_set : (j x : ℕ) (late : Bool) → Says late (LateSet s (has x)) → LateCache s (set lateness j (2 * x + bool_byte late))
  late_cache_set j x late h = record {
    says = λ i l. go i l (ℕ_discrete i j) (dec_lt j (length lateness));
  }
    where
      go : (i : ℕ) → i < 65536 → Dec (i ≡ j) → Dec (j < length lateness) → Right s (get_or (set lateness j (2 * x + bool_byte late)) i 0)
      go i l (yes e) (yes b) = rw (e, get_or-set_same lateness j (2 * x + bool_byte late) 0 b) (right_word s x late h)
      go i l (no e) b = subst (Right s) (sym (get_or-set_other lateness j i (2 * x + bool_byte late) 0 e)) (k.says i l)
      go i l (yes e) (no b) = rw (set_out lateness j (2 * x + bool_byte late) (omega arith)) (k.says i l)

  -- and behind the words for sets anything
  pub late_cache_behind : {j : ℕ} (v : ℕ) → 65536 ≤ j → LateCache s (set lateness j v)
  late_cache_behind {j} v h = record {
    says = λ i l. subst (Right s) (sym (get_or-set_other lateness j i v 0 (λ e. omega arith))) (k.says i l);
  }

-- ---- the table after a set was asked for: its word j has the set, or is written anew

module _ (lateness : List ℕ) (late : Bool) {j x : ℕ} (e : j ≡ place_of x) where
  pub noted_hit : get_or lateness j 0 / 2 ≡ x → lateness ≡ with_verdict lateness x late
  unfolding with_verdict
  noted_hit hit = rw (← e, eq-eqb _ x hit) refl

  pub noted_miss : (get_or lateness j 0 / 2 ≡ x → ⊥) → set lateness j (2 * x + bool_byte late) ≡ with_verdict lateness x late
  unfolding with_verdict
  noted_miss miss = rw (← e, ne_eqb _ x miss) refl
