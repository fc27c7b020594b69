-- The loops that make the masks of the tasks of larger priority: their invariants and laws. Assumes nothing.
use mathlib.Core.Path.{◌≡◌, refl, sym, ap, ◌∙◌}
use mathlib.Core.Logic.{◌≢◌}
use mathlib.Core.List.{List}
use Prim.Native.Nat.{ℕ, suc, ◌+◌, ◌≤◌, ◌<◌}
use native.Mathlib.Omega.{arith}
use native.Mathlib.Numerals.{add-one}
use borrow.Author.Tests.{lt-ltb, le-ltb}
use lib.Dec.{ltb, lt→ltb, ltb→lt}
use lib.ListN.{get_or, set, replicate}
use Rattle.finite.specs.Finite.{only, sum_to, tabulate}
use Rattle.mask.specs.Mask.{insert_of}
use Rattle.mask.proofs.Laws.{mask_insert, mask_skip}
use Rattle.schedule.specs.Arrays.{higher_than, higher_of}
use Rattle.schedule.proofs.Only.{only_in, only_same}
use Rattle.finite.proofs.Tabulate.{tabulate_set, tabulate_same}

-- one task's mask, with the tasks below j
pub record Row (n : ℕ) (p : List ℕ) (i row j : ℕ) : Type 0 where
  pub below : j ≤ n
  pub value : row ≡ higher_than j p i

module _ {n : ℕ} {p : List ℕ} {i : ℕ} where
  pub row_start : Row n p i 0 0
  unfolding sum_to
  row_start = record { below = omega arith; value = refl }

  module _ {row j : ℕ} (w : Row n p i row j) where
    pub row_insert : {r : ℕ} → j < n → get_or p i 0 < get_or p j 0 → r ≡ insert_of row j → Row n p i r (j + 1)
    row_insert {r} l h e = record {
      below = omega arith;
      value = rw add-one (e ∙ ap (λ (x : ℕ). insert_of x j) w.value ∙ mask_insert j (λ k. ltb (get_or p i 0) (get_or p k 0)) (lt-ltb (get_or p i 0) (get_or p j 0) h));
    }

    pub row_skip : j < n → get_or p j 0 ≤ get_or p i 0 → Row n p i row (j + 1)
    row_skip l h = record {
      below = omega arith;
      value = rw add-one (w.value ∙ mask_skip j (λ k. ltb (get_or p i 0) (get_or p k 0)) (le-ltb (get_or p i 0) (get_or p j 0) h));
    }

    pub row_end : n ≤ j → row ≡ higher_than n p i
    row_end l = let e : j ≡ n = omega (arith, w.below) in w.value ∙ ap (λ (k : ℕ). higher_than k p i) e

-- the masks of the tasks below i
pub record Rows (n : ℕ) (p rows : List ℕ) (i : ℕ) : Type 0 where
  pub below : i ≤ n
  pub value : rows ≡ tabulate 24 (λ k. only (ltb k i) (higher_than n p k))

pub rows_start : {n : ℕ} {p : List ℕ} → Rows n p (replicate 24 0) 0
rows_start {n} {p} = record {
  below = omega arith;
  value = tabulate_same 24 (λ k. only (ltb k 0) (higher_than n p k)) 0 (λ k. rw (le-ltb k 0 (omega arith)) refl);
}

pub rows_next : {n : ℕ} {p rows : List ℕ} {i r : ℕ} → Rows n p rows i → n ≤ 24 → i < n → r ≡ higher_than n p i → Rows n p (set rows i r) (i + 1)
rows_next {n} {p} {rows} {i} {r} w few l e = record { below = omega arith; value = rw (add-one, w.value, e ∙ here) (tabulate_set 24 old new i (omega arith) others) }
  where
    old : ℕ → ℕ
    old k = only (ltb k i) (higher_than n p k)

    new : ℕ → ℕ
    new k = only (ltb k (suc i)) (higher_than n p k)

    here : higher_than n p i ≡ new i
    here = sym (only_in (ltb i (suc i)) (higher_than n p i) (lt→ltb i (suc i) (omega arith)))

    others : (k : ℕ) → k ≢ i → old k ≡ new k
    others k d = only_same (ltb k i) (ltb k (suc i)) (higher_than n p k) (λ t. lt→ltb k (suc i) (omega (arith, ltb→lt k i t))) (λ t. lt→ltb k i (omega (arith, ltb→lt k (suc i) t)))

pub rows_end : {n : ℕ} {p rows : List ℕ} {i : ℕ} → Rows n p rows i → n ≤ i → rows ≡ higher_of n p
rows_end {n} {p} {rows} {i} w l = let e : i ≡ n = omega (arith, w.below) in w.value ∙ ap (λ (m : ℕ). tabulate 24 (λ k. only (ltb k m) (higher_than n p k))) e
