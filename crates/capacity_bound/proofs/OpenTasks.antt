-- The open tasks that a fair placement has on a processor can join those there; over all processors they are all open tasks. Assumes nothing.
use mathlib.Core.Path.{◌≡◌, refl, sym, ap, subst, fun_ext, ◌∙◌}
use mathlib.Core.Logic.{⊎_elim}
use mathlib.Core.Bool.{Bool, ◌&&◌}
use mathlib.Core.List.{List}
use Prim.Native.Nat.{ℕ, zero, suc, ◌+◌, ◌*◌, ◌/◌, ◌≤◌, ◌<◌}
use native.Mathlib.Omega.{arith}
use lib.Dec.{T, ltb, lt→ltb, ltb→lt}
use lib.ListN.{length, get_or}
use Rattle.finite.specs.Finite.{only, sum_to}
use Rattle.finite.proofs.Some.{or_left, or_right, or_either}
use Rattle.finite.proofs.Sum.{sum_ext, sum_add, sum_zero, sum_at}
use Rattle.finite.proofs.Only.{only_out, sum_either}
use Rattle.mask.specs.Mask.{has, mask_of, sum_over}
use Rattle.mask.proofs.Tests.{same_test, and_both, and_left, and_right}
use Rattle.mask.proofs.Laws.{has_mask, sum_same}
use Rattle.table.specs.declared.Table.{Table}
use Rattle.table.specs.Sound.{Sound}
use Rattle.rules.specs.Placement.{placed}
use Rattle.rules.specs.Rules.{memory_on, memory_broken, load_on, utilisation_broken}
use Rattle.rules.specs.Sets.{standing}
use Rattle.judge.specs.Judge.{PlacementOf}
use Rattle.rows.specs.Rows.{loads_of, exclusions_of}
use Rattle.rows.proofs.Laws.{loads_get}
use Rattle.partial.specs.declared.State.{State}
use Rattle.partial.specs.Partial.{Fits}
use Rattle.partial.proofs.OneMore.{kept_le}
use Rattle.rules.proofs.Placed.{placed_at, placed_is}
use Rattle.knapsack.specs.Knapsack.{weight_of, joined}
use Rattle.candidates.specs.Candidates.{Fair, Choice}
use Rattle.candidates.proofs.Fairness.{stands_or_open, not_both_there}
use Rattle.capacity_bound.specs.CapacityBound.{Joins}

-- the open tasks that q has on p
abbrev pub open_on : ℕ → State → List ℕ → ℕ → ℕ
open_on n s q p = mask_of n (λ k. has s.left k && placed q k p)

open_out : (n : ℕ) (s : State) (q : List ℕ) (p k : ℕ) → T (has (open_on n s q p) k) → (k < n) × T (has s.left k) × T (placed q k p)
open_out n s q p k u =
    let v = rw (has_mask n (λ j. has s.left j && placed q j p) k) at u in
    let o = and_right (ltb k n) (has s.left k && placed q k p) v in
    (ltb→lt k n (and_left (ltb k n) (has s.left k && placed q k p) v), and_left (has s.left k) (placed q k p) o, and_right (has s.left k) (placed q k p) o)

open_in : (n : ℕ) (s : State) (q : List ℕ) (p k : ℕ) → k < n → T (has s.left k) → T (placed q k p) → T (has (open_on n s q p) k)
open_in n s q p k l u v = rw (has_mask n (λ j. has s.left j && placed q j p) k) (and_both (ltb k n) (has s.left k && placed q k p) (lt→ltb k n l) (and_both (has s.left k) (placed q k p) u v))

-- what is left of a processor's load, from thousandths of a full one
spare_of : (left stands more all y : ℕ) → left + stands ≡ y / 1000 → 1000 * all ≤ y → stands + more ≡ all → more ≤ left
spare_of left stands more all y a b c = omega arith

module _ {t : Table} {s : State} {B : (ℕ → Bool) → Type 0} {q : List ℕ} (h : Sound t) (f : Fits t s) (w : Fair t s B q) {p : ℕ} (low : p < t.processors.count) where
  there : (k : ℕ) → T (joined (get_or s.on p 0) (open_on t.tasks.count s q p) k) → T (placed q k p)
  there k u = ⊎_elim (w.inside k p) (λ v. (open_out t.tasks.count s q p k v).2) (or_either (has (get_or s.on p 0) k) (has (open_on t.tasks.count s q p) k) u)

  -- the tasks on p and these are all that q has there
  all_there : (k : ℕ) → joined (get_or s.on p 0) (open_on t.tasks.count s q p) k ≡ placed q k p
  all_there k = same_test (joined (get_or s.on p 0) (open_on t.tasks.count s q p) k) (placed q k p) (there k)
      (λ v. ⊎_elim (or_left (has (get_or s.on p 0) k) _) (λ u. or_right (has (get_or s.on p 0) k) _ (open_in t.tasks.count s q p k (f.open_task k u).0 u v)) (stands_or_open w f k p v))

  -- so sums over them add up
  sums : (g : ℕ → ℕ) → sum_to t.tasks.count (λ k. only (standing s.on k p) (g k)) + sum_to t.tasks.count (λ k. only (has (open_on t.tasks.count s q p) k) (g k))
      ≡ sum_to t.tasks.count (λ k. only (placed q k p) (g k))
  sums g =
      sym (sum_either t.tasks.count (λ k. standing s.on k p) (has (open_on t.tasks.count s q p)) g (λ k l u v. (f.open_task k (open_out t.tasks.count s q p k v).1).1 p u))
      ∙ sum_ext t.tasks.count _ _ (λ k l. ap (λ (b : Bool). only b (g k)) (all_there k))

  memory_left : weight_of t.tasks.count t.tasks.memory (open_on t.tasks.count s q p) ≤ get_or s.memory p 0
  unfolding sum_over memory_on memory_broken
  memory_left =
      omega (arith, f.memory p low, sums (λ k. get_or t.tasks.memory k 0), kept_le (get_or t.processors.memory p 0) (memory_on t (placed q) p) (w.keeps.memory p low))

  load_left : weight_of t.tasks.count (loads_of t) (open_on t.tasks.count s q p) ≤ get_or s.load p 0
  unfolding sum_over load_on utilisation_broken
  load_left =
      let g : ℕ → ℕ = λ k. get_or t.tasks.c k 0 * t.hyperperiod / get_or t.tasks.t k 0 in
      let y : ℕ = get_or t.processors.limit p 0 * t.hyperperiod in
      let e = sum_same t.tasks.count (open_on t.tasks.count s q p) (λ k. get_or (loads_of t) k 0) g (λ k l u. loads_get t h k l) in
      rw e (spare_of (get_or s.load p 0) (load_on t (standing s.on) p) (sum_to t.tasks.count (λ k. only (has (open_on t.tasks.count s q p) k) (g k))) (load_on t (placed q) p) y (f.load p low)
      (kept_le y (1000 * load_on t (placed q) p) (w.keeps.utilisation p low)) (sums g))

  stand_apart : (j k : ℕ) → T (has (open_on t.tasks.count s q p) k) → T (joined (get_or s.on p 0) (open_on t.tasks.count s q p) j) → T (has (get_or (exclusions_of t) k 0) j) → ⊥
  stand_apart j k u v x = let a = open_out t.tasks.count s q p k u in not_both_there w h low j k a.0 (there j v) a.2 x

  pub fair_joins : {sets : List ℕ} → Choice t s B p (get_or sets p 0) → Joins t s B sets p (open_on t.tasks.count s q p)
  fair_joins c = record {
    inside = λ k u. let a = open_out t.tasks.count s q p k u in c.complete q w k a.1 a.2;
    takes = record {
      enough_memory = memory_left;
      enough_load = load_left;
      apart = stand_apart;
      clear = λ b. w.clear p low (subst B (fun_ext all_there) b);
    };
  }

-- ---- over all processors these are the open tasks

sum_swap : (m n : ℕ) (f : ℕ → ℕ → ℕ) → sum_to m (λ p. sum_to n (λ k. f p k)) ≡ sum_to n (λ k. sum_to m (λ p. f p k))
unfolding sum_to
sum_swap zero n f = sym (sum_zero n (λ k. 0) (λ k l. refl))
sum_swap (suc m) n f = omega (arith, sum_swap m n f, sum_add n (λ k. sum_to m (λ p. f p k)) (λ k. f m k))

pub open_sum_lem : {t : Table} (s : State) {q : List ℕ} → PlacementOf t q → (weights : List ℕ)
    → sum_to t.processors.count (λ p. weight_of t.tasks.count weights (open_on t.tasks.count s q p)) ≡ weight_of t.tasks.count weights s.left
unfolding sum_over
open_sum_lem {t} s {q} w weights = sum_swap m n (λ p k. only (has (open_on n s q p) k) (get_or weights k 0)) ∙ sum_ext n _ _ at
  where
    n : ℕ
    n = t.tasks.count

    m : ℕ
    m = t.processors.count

    at : (k : ℕ) → k < n → sum_to m (λ p. only (has (open_on n s q p) k) (get_or weights k 0)) ≡ only (has s.left k) (get_or weights k 0)
    at k l =
        let here : k < length q = omega (arith, w.long, l) in
        omega (
          arith,
          sum_at m (λ p. only (has (open_on n s q p) k) (get_or weights k 0)) (λ p. 0) (get_or q k 0) (only (has s.left k) (get_or weights k 0)) (w.known k here)
              (λ p _ d. only_out (has (open_on n s q p) k) (get_or weights k 0) (λ u. d (sym (placed_is q k p (open_out n s q p k u).2).1)))
              (omega (arith, ap (λ (b : Bool). only b (get_or weights k 0)) (same_test (has (open_on n s q (get_or q k 0)) k) (has s.left k) (λ u. (open_out n s q (get_or q k 0) k u).1) (λ u. open_in n s q (get_or q k 0) k l u (placed_at q k here))))),
          sum_zero m (λ p. 0) (λ p _. refl),
        )
