-- The loop that keeps the members of a set that pass a test. Assumes nothing.
use mathlib.Core.Path.{◌≡◌, refl, ◌∙◌}
use mathlib.Core.Bool.{Bool, true, false, ◌&&◌, ◌||◌}
use Prim.Native.Nat.{ℕ, ◌^◌, ◌<◌}
use native.Mathlib.Decide.{ℕ_discrete}
use native.Mathlib.Omega.{arith}
use borrow.Author.Tests.{eq-eqb, ne_eqb, lt-ltb}
use Rattle.mask.specs.Mask.{has, remove_of, mask_of}
use Rattle.mask.proofs.Laws.{has_zero, has_remove, has_mask, mask_lt, ext}

-- of the set, those are kept that are still to be looked at and those that passed
pub record Filtering (p : ℕ → Bool) (set rest kept : ℕ) : Type 0 where
  pub fits : kept < 2 ^ 32
  pub value : (j : ℕ) → has kept j ≡ (has set j && (has rest j || p j))

pub filtering_start : (p : ℕ → Bool) {set : ℕ} → set < 2 ^ 32 → Filtering p set set set
filtering_start p {set} l = record { fits = l; value = λ j. go (has set j) (p j) }
  where
    go : (a b : Bool) → a ≡ (a && (a || b))
    go true b = refl
    go false b = refl

module _ {p : ℕ → Bool} {set rest kept : ℕ} (w : Filtering p set rest kept) where
  -- a task other than k
  other : (k j : ℕ) → (j ≡ k → ⊥) → has kept j ≡ (has set j && (has (remove_of rest k) j || p j))
  other k j f = rw (has_remove rest k j, ne_eqb j k f) (w.value j)

  module _ {k left : ℕ} (e : left ≡ remove_of rest k) where
    pub filtering_keep : p k ≡ true → Filtering p set left kept
    filtering_keep t = record { fits = w.fits; value = λ j. rw e (go j (ℕ_discrete j k)) }
      where
        both : (a b c : Bool) → (a && (b || true)) ≡ (a && (c || true))
        both false b c = refl
        both true true true = refl
        both true true false = refl
        both true false true = refl
        both true false false = refl

        here : has kept k ≡ (has set k && (has (remove_of rest k) k || p k))
        here = w.value k ∙ rw t (both (has set k) (has rest k) (has (remove_of rest k) k))

        go : (j : ℕ) → Dec (j ≡ k) → has kept j ≡ (has set j && (has (remove_of rest k) j || p j))
        go j (yes i) = rw i here
        go j (no f) = other k j f

    pub filtering_drop : {less : ℕ} → less ≡ remove_of kept k → p k ≡ false → Filtering p set left less
    filtering_drop {less} d t = rw d (record { fits = omega (arith, w.fits); value = λ j. rw e (go j (ℕ_discrete j k)) })
      where
        none : (a : Bool) → false ≡ (a && false)
        none true = refl
        none false = refl

        here : has (remove_of kept k) k ≡ (has set k && (has (remove_of rest k) k || p k))
        here = rw (has_remove kept k k, has_remove rest k k, eq-eqb k k refl, t) (none (has set k))

        go : (j : ℕ) → Dec (j ≡ k) → has (remove_of kept k) j ≡ (has set j && (has (remove_of rest k) j || p j))
        go j (yes i) = rw i here
        go j (no f) = rw (has_remove kept k j, ne_eqb j k f) (other k j f)

  pub filtering_end : rest ≡ 0 → kept ≡ mask_of 32 (λ k. has set k && p k)
  filtering_end e = ext 32 w.fits (mask_lt 32 (λ k. has set k && p k)) (λ k l. w.value k ∙ rw (e, has_zero k, has_mask 32 (λ j. has set j && p j) k, lt-ltb k 32 l) refl)
