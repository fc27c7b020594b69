-- What the limits say of the tasks in the arrays, and the demand as the code sums it. Assumes nothing.
use mathlib.Core.Path.{◌≡◌, refl, sym, ap, ap₂, ◌∙◌}
use mathlib.Core.Bool.{Bool, ◌&&◌}
use mathlib.Core.List.{List}
use Prim.Native.Nat.{ℕ, ◌+◌, ◌≤◌, ◌<◌}
use native.Mathlib.Omega.{arith}
use borrow.Author.Tests.{lt-ltb}
use lib.Bits.{bit_and}
use lib.Dec.{T, ltb, lt→ltb, ltb→lt}
use lib.ListN.{get_or}
use Rattle.finite.specs.Finite.{only}
use Rattle.finite.proofs.Sum.{sum_ext}
use Rattle.mask.specs.Mask.{has, below, Subset, sum_over}
use Rattle.mask.proofs.Laws.{below_has, has_below, has_and, has_mask, subset_below, sum_wider}
use Rattle.schedule.specs.Periodic.{Valid, Constrained, LateSet}
use Rattle.schedule.specs.Response.{share, demand, response}
use Rattle.schedule.specs.Arrays.{InLimits, SmallShares, higher_than, share_of, shares_of, tasks_of}
use Rattle.mask.proofs.Tests.{and_left, and_right}
use Rattle.schedule.proofs.Only.{only_in}
use Rattle.schedule.proofs.LateSets.{late_set}
use Rattle.finite.proofs.Tabulate.{get_d_tabulate}
use Rattle.schedule.specs.declared.Timing.{Timing}

module _ {n : ℕ} {rows : Timing} {set : ℕ} (a : InLimits n rows set) where
  pub work_in_period : (i : ℕ) → i < n → get_or rows.work i 0 ≤ get_or rows.period i 0
  work_in_period i l = omega (arith, a.in_deadline i l, a.in_period i l)

  pub valid_of : Valid (tasks_of n rows)
  valid_of = record {
    works = a.some_work;
    some_period = λ i l. omega (arith, a.some_work i l, work_in_period i l);
    distinct = a.distinct;
  }

  pub constrained_of : Constrained (tasks_of n rows)
  constrained_of = a.in_period

  pub work_bound : (i : ℕ) → i < n → get_or rows.work i 0 ≤ 1000000
  work_bound i l = omega (arith, work_in_period i l, a.short_period i l)

  pub deadline_bound : (i : ℕ) → i < n → get_or rows.deadline i 0 ≤ 1000000
  deadline_bound i l = omega (arith, a.in_period i l, a.short_period i l)

  -- the limits do not depend on the set
  pub with_set : (other : ℕ) → T (below n other) → InLimits n rows other
  with_set other e = record {
    few = a.few;
    some_work = a.some_work;
    in_deadline = a.in_deadline;
    in_period = a.in_period;
    short_period = a.short_period;
    distinct = a.distinct;
    ranked = a.ranked;
    inside = e;
  }

  pub with_subset : (part : ℕ) → Subset part set → InLimits n rows part
  with_subset part inside = with_set part (subset_below n part set inside a.inside)

  pub task_of : {j : ℕ} → T (has set j) → j < n
  task_of {j} = below_has n set a.inside j

  -- the set is late, and is not, by its members' responses
  pub late_if : (i : ℕ) {r : ℕ} → T (has set i) → r ≡ response (tasks_of n rows) (has set) i → r ≡ 0 → LateSet (tasks_of n rows) (has set)
  late_if i m e z = (late_set (tasks_of n rows) valid_of (has set) constrained_of).1 (i, task_of m, m, sym e ∙ z)

  pub not_late_if : ((k : ℕ) → T (has set k) → 0 < response (tasks_of n rows) (has set) k) → LateSet (tasks_of n rows) (has set) → ⊥
  not_late_if h q = let e = (late_set (tasks_of n rows) valid_of (has set) constrained_of).0 q in omega (arith, e.3, h e.0 e.2)

  -- the tasks that may delay task i
  higher_at : (i : ℕ) → i < n → get_or rows.higher i 0 ≡ higher_than n rows.priority i
  higher_at i l =
      ap (λ (h : List ℕ). get_or h i 0) a.ranked
      ∙ get_d_tabulate 24 (λ k. only (ltb k n) (higher_than n rows.priority k)) i 0 (omega (arith, a.few))
      ∙ only_in (ltb i n) (higher_than n rows.priority i) (lt→ltb i n l)

  others_has : (i : ℕ) → i < n → (j : ℕ) → has (bit_and set (get_or rows.higher i 0)) j ≡ (has set j && (ltb j n && ltb (get_or rows.priority i 0) (get_or rows.priority j 0)))
  others_has i l j = has_and set (get_or rows.higher i 0) j ∙ ap (λ (b : Bool). has set j && b) (ap (λ (m : ℕ). has m j) (higher_at i l) ∙ has_mask n (λ k. ltb (get_or rows.priority i 0) (get_or rows.priority k 0)) j)

  others_below : (i : ℕ) → i < n → (j : ℕ) → T (has (bit_and set (get_or rows.higher i 0)) j) → j < n
  others_below i l j u =
      let over = ltb (get_or rows.priority i 0) (get_or rows.priority j 0) in
      ltb→lt j n (and_left (ltb j n) over (and_right (has set j) (ltb j n && over) (rw (others_has i l j) at u)))

  pub small_shares : (i : ℕ) → i < n → SmallShares rows (bit_and set (get_or rows.higher i 0))
  small_shares i l = record {
    few = λ j u. omega (arith, others_below i l j u, a.few);
    some_period = λ j u. valid_of.some_period j (others_below i l j u);
    short_period = λ j u. a.short_period j (others_below i l j u);
    little_work = λ j u. work_bound j (others_below i l j u);
  }

  pub demand_of : (i x : ℕ) {own rest : ℕ} → i < n → own ≡ get_or rows.work i 0 → rest ≡ shares_of rows (bit_and set (get_or rows.higher i 0)) x
      → own + rest ≡ demand (tasks_of n rows) (has set) i x
  unfolding demand sum_over
  demand_of i x l own rest =
      ap₂ ◌+◌ own (rest ∙ sum_wider n 24 others (share_of rows x) a.few (has_below n others (others_below i l)) ∙ sum_ext n term (share (tasks_of n rows) (has set) i x) here)
    where
      others : ℕ
      others = bit_and set (get_or rows.higher i 0)

      term : ℕ → ℕ
      term j = only (has others j) (share_of rows x j)

      here : (j : ℕ) → j < n → term j ≡ share (tasks_of n rows) (has set) i x j
      here j h = rw (others_has i l j, lt-ltb j n h) refl
