-- The loop that puts each task into the set of its processor: its invariant and its laws. Assumes nothing.
use mathlib.Core.Path.{◌≡◌, refl, sym, ap, ◌∙◌}
use mathlib.Core.List.{List}
use Prim.Native.Nat.{ℕ, suc, ◌+◌, ◌≤◌, ◌<◌}
use native.Mathlib.Omega.{arith}
use native.Mathlib.Numerals.{add-one}
use native.Mathlib.Decide.{ℕ_discrete}
use borrow.Author.Tests.{eq-eqb, ne_eqb}
use lib.Dec.{eqb}
use lib.ListN.{length, get_or, set, replicate, get_or-replicate, length-set}
use lib.Seq.{get_or-set_same, get_or-set_other, ext_get_or}
use Rattle.finite.specs.Finite.{sum_to}
use Rattle.mask.specs.Mask.{insert_of, mask_of}
use Rattle.mask.proofs.Laws.{mask_insert, mask_skip}
use Rattle.table.proofs.Columns.{column_in, column_length}
use Rattle.rules.specs.Sets.{sets_of}

-- the set of each processor has the tasks below k that stand on it
pub record Placing (q : List ℕ) (k : ℕ) (sets : List ℕ) : Type 0 where
  pub long : length sets ≡ 8
  pub upto : k ≤ length q
  pub tasks : (p : ℕ) → p < 8 → get_or sets p 0 ≡ mask_of k (λ j. eqb (get_or q j 0) p)

pub placing_start : {q : List ℕ} → Placing q 0 (replicate 8 0)
unfolding sum_to
placing_start = record { long = refl; upto = omega arith; tasks = λ p l. get_or-replicate 8 p 0 0 l }

module _ {q : List ℕ} {k : ℕ} {sets : List ℕ} (w : Placing q k sets) where
  pub placing_next : {p v : ℕ} → k < length q → p ≡ get_or q k 0 → p < 8 → v ≡ insert_of (get_or sets p 0) k → Placing q (k + 1) (set sets p v)
  placing_next {p} {v} l e low put = record {
    long = length-set sets p v ∙ w.long;
    upto = omega arith;
    tasks = λ r m. rw add-one (go r m (ℕ_discrete r p));
  }
    where
      go : (r : ℕ) → r < 8 → Dec (r ≡ p) → get_or (set sets p v) r 0 ≡ mask_of (suc k) (λ j. eqb (get_or q j 0) r)
      go r m (yes d) =
          ap (λ (x : ℕ). get_or (set sets p v) x 0) d
          ∙ get_or-set_same sets p v 0 (omega (arith, w.long))
          ∙ put
          ∙ ap (λ (x : ℕ). insert_of x k) (w.tasks p low)
          ∙ mask_insert k (λ j. eqb (get_or q j 0) p) (eq-eqb _ _ (sym e))
          ∙ ap (λ (x : ℕ). mask_of (suc k) (λ j. eqb (get_or q j 0) x)) (sym d)
      go r m (no d) = get_or-set_other sets p r v 0 d ∙ w.tasks r m ∙ mask_skip k (λ j. eqb (get_or q j 0) r) (ne_eqb _ _ (λ z. d (sym z ∙ sym e)))

  pub placing_end : length q ≤ k → sets ≡ sets_of q
  unfolding sets_of
  placing_end l = ext_get_or 0 sets (sets_of q) (w.long ∙ sym (column_length 8 8 _)) (λ p m.
      let low : p < 8 = omega (arith, w.long) in
      let all : k ≡ length q = omega (arith, w.upto) in
      w.tasks p low ∙ ap (λ (x : ℕ). mask_of x (λ j. eqb (get_or q j 0) p)) all ∙ sym (column_in 8 8 (λ r. mask_of (length q) (λ j. eqb (get_or q j 0) r)) p (omega arith) low))
