-- The loop that joins the groups of one task: its invariant and its laws. Assumes nothing.
use mathlib.Core.Path.{◌≡◌, sym, ap, ◌∙◌}
use mathlib.Core.Bool.{Bool, true, false, ◌||◌, or_comm, or-false}
use mathlib.Core.List.{List}
use Prim.Native.Nat.{ℕ, ◌+◌, ◌≤◌, ◌<◌}
use native.Mathlib.Numerals.{add-one}
use native.Mathlib.Omega.{arith}
use borrow.Author.Tests.{lt-ltb}
use lib.Bits.{bit_or}
use lib.Dec.{T, ltb→lt, lt→ltb}
use lib.ListN.{get_or}
use Rattle.finite.specs.Finite.{some_below}
use Rattle.mask.specs.Mask.{has, below, remove_of}
use Rattle.mask.proofs.Laws.{has_or, has_zero, has_remove, remove_subset, subset_below, has_below, below_has, ext}
use Rattle.table.specs.declared.Groups.{Groups}
use Rattle.table.specs.Sound.{SoundGroups}
use Rattle.rows.specs.Rows.{beside_of}
use Rattle.rows.proofs.Laws.{same_group, group_out, beside_test, beside_below}

-- the set has the tasks of those of the first g groups that task k is in
pub record Grouped (masks : List ℕ) (n k g set : ℕ) : Type 0 where
  pub upto : g ≤ n
  pub tasks : (j : ℕ) → has set j ≡ same_group masks g k j

pub grouped_start : {masks : List ℕ} {n k : ℕ} → Grouped masks n k 0 0
unfolding some_below
grouped_start = record { upto = omega arith; tasks = has_zero }

module _ {masks : List ℕ} {n k g set : ℕ} (w : Grouped masks n k g set) (l : g < n) where
  -- one group more, that has k or that has not
  pub grouped_join : has (get_or masks g 0) k ≡ true → Grouped masks n k (g + 1) (bit_or set (get_or masks g 0))
  unfolding some_below
  grouped_join e = record { upto = omega arith; tasks = λ j. rw (add-one, e) (has_or set (get_or masks g 0) j ∙ or_comm (has (get_or masks g 0) j) (has set j) ∙ ap (λ (b : Bool). b || has (get_or masks g 0) j) (w.tasks j)) }

  pub grouped_skip : has (get_or masks g 0) k ≡ false → Grouped masks n k (g + 1) set
  unfolding some_below
  grouped_skip e = record { upto = omega arith; tasks = λ j. rw (add-one, e) (w.tasks j ∙ sym (or-false _)) }

module _ {groups : Groups} {n k g set : ℕ} (s : SoundGroups n groups) (w : Grouped groups.mask groups.count k g set) where
  -- the groups name tasks of the table alone
  grouped_below : T (below n set)
  grouped_below = has_below n set (λ j u.
      let r = group_out groups.mask g k j (rw (w.tasks j) at u) in
      below_has n (get_or groups.mask r.0 0) (lt→ltb _ _ (s.below r.0 (omega (arith, r.1, w.upto)))) j r.3)

  -- after the last group, without k
  pub grouped_end : {r : ℕ} → groups.count ≤ g → r ≡ remove_of set k → r ≡ beside_of groups n k
  grouped_end l e =
      let all : g ≡ groups.count = omega (arith, w.upto) in
      e
      ∙ ext n (ltb→lt _ _ (subset_below n (remove_of set k) set (remove_subset set k) grouped_below)) (beside_below groups n k)
      (λ j m. has_remove set k j ∙ sym (rw (beside_test groups n k j, lt-ltb j n m, w.tasks j, all)))
