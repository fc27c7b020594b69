-- The first good placement: what first_good finds, in terms of the tick run. Assumes nothing.
use mathlib.Core.Path.{◌≡◌, sym, ◌∙◌}
use mathlib.Core.Bool.{Bool}
use mathlib.Core.List.{List}
use Prim.Native.Nat.{ℕ, ◌≤◌, ◌<◌}
use native.Mathlib.Omega.{arith}
use native.Mathlib.Decide.{dec_lt}
use borrow.Author.Tests.{lt-ltb, le-ltb}
use lib.Dec.{T, eqb→eq}
use Rattle.finite.proofs.Search.{FirstBelow, first_below_lem, lowest, nowhere}
use Rattle.table.specs.declared.Table.{Table}
use Rattle.table.specs.Sound.{Sound}
use Rattle.judge.specs.Judge.{PlacementOf, judged_on, judgement_number}
use Rattle.judge.specs.Good.{Good}
use Rattle.judge.proofs.Meaning.{kept_good, good_kept}
use Rattle.answer.specs.Answer.{found_head, none_head}
use Rattle.goal.specs.Order.{Earlier}
use Rattle.goal.specs.Goal.{placements, nth, is_good, first_good, head_of}
use Rattle.goal.proofs.Numbers.{placement_number, placement_at_long, placement_at_known, number_small, number_at, at_number, earlier_smaller, smaller_earlier}

-- ---- the judge answers 0 exactly for a good placement

module _ {t : Table} (s : Sound t) (q : List ℕ) where
  pub is_good_lem : T (is_good t q) → Good t q
  is_good_lem u = kept_good s q (eqb→eq (judgement_number (judged_on t q)) 0 u)

  pub good_is : Good t q → T (is_good t q)
  good_is g = rw (good_kept s q g) tt

-- ---- placements and their numbers

-- the number of a placement on the table's processors
abbrev pub number_in : Table → List ℕ → ℕ
number_in t q = placement_number t.processors.count q

-- its number is below that of the first good one: 01's earlier placements; with `NO`, all
abbrev pub Before : Table → List ℕ → Type 0
Before t e = number_in t e < first_good t

module _ (t : Table) {i : ℕ} (l : i < placements t) where
  pub nth_placement : PlacementOf t (nth t i)
  nth_placement = record {
    long = placement_at_long t.tasks.count t.processors.count i;
    known = placement_at_known t.tasks.count t.processors.count l;
  }

  pub nth_number : number_in t (nth t i) ≡ i
  nth_number = number_at t.tasks.count t.processors.count l

module _ {t : Table} {q : List ℕ} (w : PlacementOf t q) where
  pub number_nth : nth t (number_in t q) ≡ q
  number_nth = at_number t.processors.count q w.long w.known

  pub number_below : number_in t q < placements t
  number_below = rw (← w.long) (number_small t.processors.count q w.known)

  module _ {e : List ℕ} (v : PlacementOf t e) where
    pub earlier_below : Earlier e q → number_in t e < number_in t q
    earlier_below = earlier_smaller (v.long ∙ sym w.long) v.known

    pub below_earlier : number_in t e < number_in t q → Earlier e q
    below_earlier = smaller_earlier (v.long ∙ sym w.long) w.known

-- ---- what first_good finds

module _ (t : Table) where
  finds : FirstBelow (placements t) (λ i. is_good t (nth t i)) (first_good t)
  unfolding first_good
  finds = first_below_lem (placements t) (λ i. is_good t (nth t i))

  pub first_most : first_good t ≤ placements t
  first_most = go finds
    where
      go : {y : ℕ} {p : ℕ → Bool} {n : ℕ} → FirstBelow n p y → y ≤ n
      go (lowest l u h) = omega arith
      go (nowhere e h) = omega arith

module _ (t : Table) {i : ℕ} (l : i < first_good t) where
  pub before_placement : PlacementOf t (nth t i)
  before_placement = nth_placement t (omega (arith, first_most t))

  pub before_nth : Before t (nth t i)
  before_nth = omega (arith, nth_number t {i = i} (omega (arith, first_most t)))

module _ {t : Table} (s : Sound t) where
  pub first_good_lem : first_good t < placements t → Good t (nth t (first_good t))
  first_good_lem l = is_good_lem s (nth t (first_good t)) (go (finds t) l)
    where
      go : {y : ℕ} {p : ℕ → Bool} {n : ℕ} → FirstBelow n p y → y < n → T (p y)
      go (lowest l u h) k = u
      go (nowhere e h) k = absurd (omega arith)

  -- no placement before it is good
  pub before_bad : {e : List ℕ} → Before t e → Good t e → ⊥
  before_bad {e} b g = go (finds t) b (rw (number_nth g.placement) (good_is s e g))
    where
      go : {y i : ℕ} {p : ℕ → Bool} {n : ℕ} → FirstBelow n p y → i < y → T (p i) → ⊥
      go (lowest l u h) k = h _ k
      go (nowhere e h) k = h _ (omega arith)

  -- so none that 01 calls earlier, nor any where none is found
  pub earlier_bad : first_good t < placements t → (e : List ℕ) → Earlier e (nth t (first_good t)) → Good t e → ⊥
  earlier_bad l e w g = before_bad (omega (arith, nth_number t l, earlier_below (nth_placement t l) g.placement w)) g

  pub none_good : placements t ≤ first_good t → (q : List ℕ) → Good t q → ⊥
  none_good l q g = before_bad (omega (arith, number_below g.placement)) g

  -- a good placement before which no good one stands
  module _ {q : List ℕ} (g : Good t q) (first : (e : List ℕ) → PlacementOf t e → Earlier e q → Good t e → ⊥) where
    found_number : first_good t ≡ number_in t q
    found_number = go (dec_lt (number_in t q) (first_good t)) (dec_lt (first_good t) (number_in t q))
      where
        go : Dec (number_in t q < first_good t) → Dec (first_good t < number_in t q) → first_good t ≡ number_in t q
        go (yes a) b = absurd (before_bad a g)
        go (no a) (yes b) =
            let l : first_good t < placements t = omega (arith, number_below g.placement) in
            let v = nth_placement t l in
            absurd (first (nth t (first_good t)) v (below_earlier g.placement v (omega (arith, nth_number t l))) (first_good_lem l))
        go (no a) (no b) = omega arith

    pub found_below : first_good t < placements t
    found_below = rw found_number (number_below g.placement)

    pub found_nth : nth t (first_good t) ≡ q
    found_nth = rw found_number (number_nth g.placement)

    pub earlier_before : {e : List ℕ} → PlacementOf t e → Earlier e q → Before t e
    earlier_before v w = rw found_number (earlier_below g.placement v w)

    pub before_earlier : {e : List ℕ} → PlacementOf t e → Before t e → Earlier e q
    before_earlier v b = below_earlier g.placement v (omega (arith, found_number))

    -- 01: the head is `AL` and n processor bytes
    pub found_head_lem : head_of t ≡ found_head q
    found_head_lem = rw (lt-ltb (first_good t) (placements t) found_below, found_nth)

  -- no placement is good
  module _ (none : (q : List ℕ) → PlacementOf t q → Good t q → ⊥) where
    pub none_first : first_good t ≡ placements t
    none_first = go (dec_lt (first_good t) (placements t))
      where
        go : Dec (first_good t < placements t) → first_good t ≡ placements t
        go (yes l) = absurd (none (nth t (first_good t)) (nth_placement t l) (first_good_lem l))
        go (no l) = omega (arith, first_most t)

    pub none_before : {e : List ℕ} → PlacementOf t e → Before t e
    none_before v = rw none_first (number_below v)

    -- 01: or `NO` and n bytes 255
    pub none_head_lem : head_of t ≡ none_head t.tasks.count
    none_head_lem = rw (le-ltb (first_good t) (placements t) (omega (arith, none_first)))
