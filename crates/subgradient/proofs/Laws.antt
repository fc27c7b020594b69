-- Laws of the numbers of a step: how large they grow, and what a step leaves true. Assumes nothing.
use mathlib.Core.Path.{◌≡◌, refl, ◌∙◌}
use mathlib.Core.Bool.{Bool, true, false, ◌&&◌, ◌||◌, cond}
use mathlib.Core.List.{List}
use Prim.Native.Nat.{ℕ, suc, ◌+◌, ◌*◌, ◌≤◌, ◌<◌}
use native.Mathlib.Omega.{arith}
use native.Mathlib.Nat.{mul-le-mul}
use native.Mathlib.Numerals.{add-one}
use borrow.Author.Tests.{lt-ltb, ne_eqb}
use lib.Bits.{bit_and}
use lib.Dec.{T, ltb, ltb→lt}
use lib.ListN.{get_or, replicate}
use Rattle.finite.specs.Finite.{only, sum_to, tabulate}
use Rattle.finite.proofs.Only.{only_le, sum_bound}
use Rattle.mask.specs.Mask.{has, below, mask_of}
use Rattle.mask.proofs.Laws.{has_and, has_mask, has_below}
use Rattle.mask.proofs.Tests.{and_left, and_right}
use Rattle.finite.proofs.Tabulate.{get_d_tabulate, tabulate_below, tabulate_same}
use Rattle.subgradient.specs.Subgradient.{AtMost, count_of, counted_of, counts_of, direction_from, direction_of, distance, norm_of, total_of, off_scale, scaled_of, rescaled_of, step_of, stepped, adapt_of}

-- ---- the tasks of any mask

abbrev pub tasks_in : ℕ → ℕ
tasks_in set = bit_and set (mask_of 24 (λ j. true))

has_tasks : (set k : ℕ) → has (tasks_in set) k ≡ (has set k && (ltb k 24 && true))
has_tasks set k = has_and set (mask_of 24 (λ j. true)) k ∙ rw (has_mask 24 (λ j. true) k) refl

pub tasks_below : (set : ℕ) → T (below 24 (tasks_in set))
tasks_below set = has_below 24 (tasks_in set) (λ k t. ltb→lt k 24 (and_left (ltb k 24) true (and_right (has set k) (ltb k 24 && true) (rw (has_tasks set k) at t))))

tasks_same : (set k : ℕ) → k < 24 → has (tasks_in set) k ≡ has set k
tasks_same set k l = has_tasks set k ∙ rw (lt-ltb k 24 l) (go (has set k))
  where
    go : (b : Bool) → (b && true) ≡ b
    go true = refl
    go false = refl

-- a task of the set is counted once more
pub count_more : (counts : List ℕ) (set k : ℕ) → k < 24 → cond (has (tasks_in set) k) (get_or counts k 0 + 1) (get_or counts k 0) ≡ get_or counts k 0 + only (has set k) 1
count_more counts set k l = rw (tasks_same set k l) (go (has set k))
  where
    go : (b : Bool) → cond b (get_or counts k 0 + 1) (get_or counts k 0) ≡ get_or counts k 0 + only b 1
    go true = refl
    go false = omega arith

-- ---- the direction

abbrev pub square : List ℕ → ℕ → ℕ
square direction k = distance (get_or direction k 0) * distance (get_or direction k 0)

pub distance_small : (d : ℕ) → d ≤ 2048 → distance d ≤ 1792
distance_small d l = omega arith

pub square_small : (direction : List ℕ) → AtMost 2048 direction → (k : ℕ) → k < 24 → square direction k ≤ 3211264
square_small direction a k l = let h = distance_small (get_or direction k 0) (a.each k l) in mul-le-mul h h

-- ---- rows whose numbers have a bound

at_most : (limit : ℕ) (f : ℕ → ℕ) → ((k : ℕ) → k < 24 → f k ≤ limit) → AtMost limit (tabulate 24 f)
at_most limit f h = record { each = λ k l. rw (get_d_tabulate 24 f k 0 l) (h k l) }

pub counts_start : (sets : List ℕ) → replicate 24 0 ≡ counts_of sets 0
unfolding sum_to
counts_start sets = tabulate_same 24 (count_of sets 0) 0 (λ k. refl)

pub counts_next : (sets : List ℕ) (p : ℕ) → counted_of (counts_of sets p) (get_or sets p 0) ≡ counts_of sets (p + 1)
unfolding sum_to
counts_next sets p = rw (add-one p) (tabulate_below 24 _ (count_of sets (suc p)) (λ k l. rw (get_d_tabulate 24 (count_of sets p) k 0 l) refl))

pub counts_small : (sets : List ℕ) (m limit : ℕ) → m ≤ limit → AtMost limit (counts_of sets m)
counts_small sets m limit h = at_most limit (count_of sets m) (λ k l. omega (arith, sum_bound m (λ p. only (has (get_or sets p 0) k) 1) 1 (λ p q. only_le (has (get_or sets p 0) k) 1 1 (λ u. omega arith))))

direction_limit : (first : Bool) (before count : ℕ) → before ≤ 2048 → count ≤ 8 → direction_from first before count ≤ 2048
direction_limit true before count b c = omega arith
direction_limit false before count b c = omega arith

pub direction_small : (first : Bool) (before counts : List ℕ) → AtMost 2048 before → AtMost 8 counts → AtMost 2048 (direction_of first before counts)
direction_small first before counts b c = at_most 2048 _ (λ k l. direction_limit first (get_or before k 0) (get_or counts k 0) (b.each k l) (c.each k l))

-- ---- the branches of a step

pub off_scale_some : (total : ℕ) → off_scale total ≡ true → 0 < total
off_scale_some total e = ltb→lt 0 total (and_left (ltb 0 total) (ltb total 2097152 || ltb 8388608 total) (rw e tt))

pub rescaled_off : (weights : List ℕ) (left total : ℕ) → total ≡ total_of weights left → off_scale total ≡ true → scaled_of weights total ≡ rescaled_of weights left
rescaled_off weights left total e o = rw (e, rw e at o) refl

pub rescaled_on : (weights : List ℕ) (left total : ℕ) → total ≡ total_of weights left → off_scale total ≡ false → weights ≡ rescaled_of weights left
rescaled_on weights left total e o = rw (rw e at o) refl

-- ---- weights below 2^28

-- ---- a step

module _ (weights before : List ℕ) (first : Bool) (sets : List ℕ) (m left gap alpha : ℕ) where
  abbrev next : List ℕ
  next = direction_of first before (counts_of sets m)

  pub adapt_still : norm_of next left ≡ 0 → record { weights = weights; direction = next; still = true } ≡ adapt_of weights before first sets m left gap alpha
  unfolding adapt_of stepped
  adapt_still e = rw e refl

  pub adapt_moves : (norm_of next left ≡ 0 → ⊥) → record { weights = step_of weights next left gap alpha; direction = next; still = false } ≡ adapt_of weights before first sets m left gap alpha
  unfolding adapt_of stepped
  adapt_moves e = rw (ne_eqb (norm_of next left) 0 e) refl

  -- the direction can go into the next step
  pub adapt_direction : AtMost 2048 before → m ≤ 8 → AtMost 2048 (adapt_of weights before first sets m left gap alpha).direction
  unfolding adapt_of
  adapt_direction b l = direction_small first before (counts_of sets m) b (counts_small sets m 8 l)
