-- What the rows hold at each place: their values and bounds; and which tasks share a group. Assumes nothing.
use mathlib.Core.Path.{◌≡◌}
use mathlib.Core.Logic.{◌≢◌}
use mathlib.Core.Bool.{Bool, not, ◌&&◌}
use mathlib.Core.List.{List}
use Prim.Native.Nat.{ℕ, ◌*◌, ◌/◌, ◌^◌, ◌≤◌, ◌<◌}
use native.Mathlib.Omega.{arith}
use native.Mathlib.Decide.{dec_lt}
use borrow.Author.Tests.{eq-eqb, ne_eqb, lt-ltb}
use lib.Dec.{T, eqb, ltb, ltb→lt}
use lib.ListN.{get_or}
use Rattle.finite.specs.Finite.{some_below}
use Rattle.finite.proofs.Some.{some_elim, some_intro}
use Rattle.mask.specs.Mask.{has}
use Rattle.mask.proofs.Tests.{and_both, and_left, and_right}
use Rattle.mask.proofs.Laws.{has_mask, mask_lt}
use Rattle.table.specs.declared.Table.{Table}
use Rattle.table.specs.declared.Groups.{Groups}
use Rattle.table.specs.Table.{column}
use Rattle.table.specs.Sound.{Sound}
use Rattle.table.proofs.Columns.{column_in, column_beyond}
use Rattle.table.proofs.Times.{work_in_period}
use Rattle.rules.specs.Rules.{amount_of}
use Rattle.load.proofs.Work.{work_le}
use Rattle.rules.proofs.Bounds.{amount_bound}
use Rattle.rows.specs.Rows.{loads_of, amounts_of, beside_of, neighbours_of}

-- what holds of 0 and of each number holds at every place of their row
column_all : (p n : ℕ) (f : ℕ → ℕ) (P : ℕ → Type 0) → n ≤ p → P 0 → ((j : ℕ) → j < n → P (f j)) → (j : ℕ) → P (get_or (column p n f) j 0)
column_all p n f P few none h j = go (dec_lt j n)
  where
    go : Dec (j < n) → P (get_or (column p n f) j 0)
    go (yes l) = rw (column_in p n f j few l) (h j l)
    go (no l) = rw (column_beyond p n f j (omega arith)) none

-- ---- the tasks that share a group with task k

-- one of the first n groups has both tasks
abbrev pub same_group : List ℕ → ℕ → ℕ → ℕ → Bool
same_group masks n k j = some_below n (λ g. has (get_or masks g 0) k && has (get_or masks g 0) j)

pub group_out : (masks : List ℕ) (n k j : ℕ) → T (same_group masks n k j) → (g : ℕ) × (g < n) × T (has (get_or masks g 0) k) × T (has (get_or masks g 0) j)
group_out masks n k j u =
    let r = some_elim n (λ g. has (get_or masks g 0) k && has (get_or masks g 0) j) u in
    let a = has (get_or masks r.0 0) k in
    let b = has (get_or masks r.0 0) j in
    (r.0, r.1, and_left a b r.2, and_right a b r.2)

module _ (groups : Groups) (n k : ℕ) where
  -- the test of a task
  abbrev together : ℕ → Bool
  together j = not (eqb j k) && same_group groups.mask groups.count k j

  pub beside_test : (j : ℕ) → has (beside_of groups n k) j ≡ (ltb j n && together j)
  unfolding beside_of
  beside_test = has_mask n together

  pub beside_below : beside_of groups n k < 2 ^ n
  unfolding beside_of
  beside_below = mask_lt n together

  pub beside_out : (j : ℕ) → T (has (beside_of groups n k) j) → (j < n) × (j ≢ k) × (g : ℕ) × (g < groups.count) × T (has (get_or groups.mask g 0) k) × T (has (get_or groups.mask g 0) j)
  beside_out j u =
      let low = ltb j n in
      let same = same_group groups.mask groups.count k j in
      let test : T (low && together j) = rw (beside_test j) at u in
      let rest : T (together j) = and_right low (together j) test in
      let r = group_out groups.mask groups.count k j (and_right (not (eqb j k)) same rest) in
      (ltb→lt j n (and_left low (together j) test), (λ e. rw (eq-eqb j k e) at (and_left (not (eqb j k)) same rest)), r.0, r.1, r.2, r.3)

  pub beside_in : (j g : ℕ) → j < n → j ≢ k → g < groups.count → T (has (get_or groups.mask g 0) k) → T (has (get_or groups.mask g 0) j) → T (has (beside_of groups n k) j)
  beside_in j g low other l u v =
      rw (beside_test j, lt-ltb j n low, ne_eqb j k other)
      (some_intro groups.count (λ i. has (get_or groups.mask i 0) k && has (get_or groups.mask i 0) j) g l (and_both (has (get_or groups.mask g 0) k) (has (get_or groups.mask g 0) j) u v))

-- ---- values and bounds, of a table that was read

module _ (t : Table) (s : Sound t) where
  pub loads_get : (k : ℕ) → k < t.tasks.count → get_or (loads_of t) k 0 ≡ get_or t.tasks.c k 0 * t.hyperperiod / get_or t.tasks.t k 0
  unfolding loads_of
  loads_get k l = column_in 24 t.tasks.count _ k s.tasks.most l

  pub amounts_get : (j : ℕ) → j < t.messages.count → get_or (amounts_of t) j 0 ≡ amount_of t j
  unfolding amounts_of
  amounts_get j l = column_in 64 t.messages.count (amount_of t) j s.messages.most l

  pub neighbours_get : (groups : Groups) (k : ℕ) → k < t.tasks.count → get_or (neighbours_of groups t.tasks.count) k 0 ≡ beside_of groups t.tasks.count k
  unfolding neighbours_of
  neighbours_get groups k l = column_in 24 t.tasks.count (beside_of groups t.tasks.count) k s.tasks.most l

  pub loads_bound : (k : ℕ) → get_or (loads_of t) k 0 ≤ 1000000000
  unfolding loads_of
  loads_bound = column_all 24 t.tasks.count (λ k. get_or t.tasks.c k 0 * t.hyperperiod / get_or t.tasks.t k 0) (λ v. v ≤ 1000000000) s.tasks.most (omega arith)
      (λ k l. omega (arith, work_le (get_or t.tasks.c k 0) (get_or t.tasks.t k 0) t.hyperperiod (work_in_period s k l), s.hyperperiod_most))

  pub amounts_bound : (j : ℕ) → get_or (amounts_of t) j 0 ≤ 1000000000000000
  unfolding amounts_of
  amounts_bound = column_all 64 t.messages.count (amount_of t) (λ v. v ≤ 1000000000000000) s.messages.most (omega arith) (λ j l. (amount_bound t s j l).1)
