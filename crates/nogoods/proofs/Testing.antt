-- The test of a set: its answer, the list and the cache of tested sets afterwards, by what it asked in turn. Assumes nothing.
use mathlib.Core.Path.{◌≡◌, refl}
use mathlib.Core.Bool.{Bool, true, false, ◌&&◌}
use mathlib.Core.Logic.{inl}
use mathlib.Core.List.{List}
use Prim.Native.Nat.{ℕ}
use borrow.Author.Tests.{eq-eqb}
use Rattle.mask.specs.Mask.{has}
use Rattle.schedule.specs.Periodic.{Tasks, LateSet}
use Rattle.schedule.specs.Response.{late_test}
use Rattle.late_cache.specs.LateCache.{with_verdict}
use Rattle.nogoods.specs.declared.Mode.{Mode}
use Rattle.nogoods.specs.Nogoods.{Nogoods, full, Clear, Verdict, covered_by, looked_for, test_by, test_of, cache_after, Noted}
use Rattle.nogoods.proofs.Growth.{extended_refl}

module _ {s : Tasks} {count : ℕ} {list : List ℕ} (w : Nogoods s list count) (mode : Mode) (x : ℕ) where
  module _ {late : Bool} (is-late : late ≡ late_test s (has x)) where
    pub test_is : {listed covered none_free : Bool} → listed ≡ mode.listing → covered ≡ covered_by list count x → none_free ≡ full list count
        → test_by late listed covered none_free count ≡ test_of s mode x list count
    unfolding test_of
    test_is l c f = rw (is-late, l, c, f) refl

    pub cache_asked : (lateness : List ℕ) {after : List ℕ} → (late && mode.listing) ≡ false → after ≡ with_verdict lateness x late → after ≡ cache_after s mode x list count lateness
    unfolding cache_after
    cache_asked lateness e a = rw (← is-late, e) a

    pub cache_looked : (lateness : List ℕ) {asked after : List ℕ} → (late && mode.listing) ≡ true → asked ≡ with_verdict lateness x late → after ≡ looked_for asked list count x
        → after ≡ cache_after s mode x list count lateness
    unfolding cache_after
    cache_looked lateness e a b = rw (← is-late, e, ← a) b

  -- the list stays as it is
  pub unchanged : {b : Bool} → record { bad = b; count = count } ≡ test_of s mode x list count → Verdict b s mode.listing list count (has x)
      → Noted s mode x list count list (record { bad = b; count = count })
  unchanged e v = record { value = e; bytes = rw (eq-eqb count count refl) refl; list = extended_refl w; verdict = v }

  -- a set that is not late may stand, whether conflicts are listed or not
  pub in_time : (LateSet s (has x) → ⊥) → Clear s mode.listing list count (has x)
  in_time f = go mode.listing
    where
      go : (b : Bool) → Clear s b list count (has x)
      go false = f
      go true = inl f
