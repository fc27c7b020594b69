-- Weights of sets of tasks: how large they are, one by another. Assumes nothing.
use mathlib.Core.Path.{◌≡◌, sym, ◌∙◌}
use mathlib.Core.Logic.{◌⊎◌, inl, inr, ⊎_elim}
use mathlib.Core.List.{List}
use Prim.Native.Nat.{ℕ, ◌+◌, ◌≤◌, ◌<◌, min}
use native.Mathlib.Omega.{arith}
use native.Mathlib.Decide.{ℕ_discrete, dec_lt}
use lib.Dec.{T}
use lib.ListN.{length, get_or, set, replicate}
use lib.Seq.{get_or-set_same, get_or-set_other}
use Rattle.finite.proofs.Stored.{zeros, set_all}
use Rattle.mask.specs.Mask.{below, Subset}
use Rattle.mask.proofs.Laws.{sum_subset, sum_wider}
use Rattle.partial.specs.declared.State.{State}
use Rattle.rows.specs.declared.Measure.TheVariants.{Load, Memory}
use Rattle.knapsack.specs.declared.Weighting.{Weighting}
use Rattle.knapsack.specs.Knapsack.{weight_of}
use Rattle.subgradient.specs.Subgradient.{total_of, heaviest}
use Rattle.capacity_bound.specs.CapacityBound.{TopAs}

-- the lower of two numbers is one of them
pub lower_is : (a b : ℕ) {r : ℕ} → r ≡ min a b → (r ≤ a) × (r ≤ b) × ((r ≡ a) ⊎ (r ≡ b))
lower_is a b {r} e = (omega arith, omega arith, go (dec_lt a b))
  where
    go : Dec (a < b) → (r ≡ a) ⊎ (r ≡ b)
    go (yes l) = inl (omega arith)
    go (no l) = inr (omega arith)

-- the weight of a set is the same among any n tasks that hold it
pub weight_among : (weights : List ℕ) {all : ℕ} (set : ℕ) → T (below 24 set) → all ≡ total_of weights set → (n : ℕ) → T (below n set) → all ≡ weight_of n weights set
weight_among weights {all} set b e n d = go (dec_lt n 24)
  where
    go : Dec (n < 24) → all ≡ weight_of n weights set
    go (yes l) = e ∙ sum_wider n 24 set (λ k. get_or weights k 0) (omega arith) d
    go (no l) = e ∙ sym (sum_wider 24 n set (λ k. get_or weights k 0) (omega arith) b)

-- ---- a bound on what a processor can take

module _ (weighting : Weighting) {all : ℕ} (set : ℕ) (h : (n : ℕ) → T (below n set) → all ≡ weight_of n weighting.weights set) where
  within_all : (n : ℕ) → T (below n set) → (x : ℕ) → Subset x set → weight_of n weighting.weights x ≤ all
  within_all n b x f = omega (arith, sum_subset n x set (λ k. get_or weighting.weights k 0) f, h n b)

  pub top_all : {space spare : ℕ} → all ≤ heaviest → TopAs weighting set space spare all
  top_all l = record { small = l; bounds = λ n b x f u v. within_all n b x f }

  -- or by the room that is left, where that is weighed
  pub top_room : {space spare room r : ℕ} → ((w : ℕ) → (weighting.measure ≡ Load → w ≤ spare) → (weighting.measure ≡ Memory → w ≤ space) → w ≤ room) → all ≤ heaviest → (r ≤ all) × (r ≤ room) × ((r ≡ all) ⊎ (r ≡ room)) → TopAs weighting set space spare r
  top_room g l (a, c, d) = record { small = omega arith; bounds = λ n b x f u v. ⊎_elim (λ i. omega (arith, within_all n b x f)) (λ i. omega (arith, g (weight_of n weighting.weights x) u v)) d }

-- ---- such a bound for one processor after the other

pub record Topping (weighting : Weighting) (sets : List ℕ) (s : State) (p : ℕ) (tops : List ℕ) : Type 0 where
  pub small : (r : ℕ) → get_or tops r 0 ≤ heaviest
  pub bounds : (r : ℕ) → r < p → TopAs weighting (get_or sets r 0) (get_or s.memory r 0) (get_or s.load r 0) (get_or tops r 0)

pub topping_start : {weighting : Weighting} {sets : List ℕ} {s : State} → Topping weighting sets s 0 (replicate 8 0)
topping_start = record { small = none; bounds = λ r l. absurd (omega arith) }
  where
    none : (r : ℕ) → get_or (replicate 8 0) r 0 ≤ heaviest
    none r = omega (arith, zeros 8 r)

pub topping_next : {weighting : Weighting} {sets : List ℕ} {s : State} {p : ℕ} {tops : List ℕ} {v : ℕ} → Topping weighting sets s p tops → p < length tops
    → TopAs weighting (get_or sets p 0) (get_or s.memory p 0) (get_or s.load p 0) v → Topping weighting sets s (p + 1) (set tops p v)
topping_next {weighting} {sets} {s} {p} {tops} {v} w low a = record { small = set_all (λ r x. x ≤ heaviest) tops p v low w.small a.small; bounds = λ r l. go r l (ℕ_discrete r p) }
  where
    go : (r : ℕ) → r < p + 1 → Dec (r ≡ p) → TopAs weighting (get_or sets r 0) (get_or s.memory r 0) (get_or s.load r 0) (get_or (set tops p v) r 0)
    go r l (yes e) = rw (e, get_or-set_same tops p v 0 low) a
    go r l (no e) = rw (get_or-set_other tops p r v 0 e) (w.bounds r (omega arith))
