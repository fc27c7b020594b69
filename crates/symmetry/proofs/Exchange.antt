-- Two processors exchanged in a placement: what is exchanged is another placement, and which rules that one keeps. Assumes nothing.
use mathlib.Core.Path.{◌≡◌, refl, sym, ap, subst, fun_ext, ◌∙◌}
use mathlib.Core.Logic.{◌≢◌}
use mathlib.Core.Bool.{Bool, not, cond, ◌&&◌}
use mathlib.Core.List.{List}
use Prim.Native.Nat.{ℕ, ◌*◌, ◌≤◌, ◌<◌}
use native.Mathlib.Omega.{arith}
use native.Mathlib.Decide.{ℕ_discrete}
use borrow.Author.Tests.{eq-eqb, ne_eqb}
use lib.Dec.{T, eqb}
use lib.ListN.{length, get_or}
use Rattle.finite.proofs.Some.{some_intro, some_elim}
use Rattle.finite.proofs.Only.{sum_more}
use Rattle.mask.specs.Mask.{has}
use Rattle.mask.proofs.Tests.{same_test, and_both, and_left, and_right}
use Rattle.table.specs.declared.Table.{Table}
use Rattle.table.specs.Table.{column}
use Rattle.table.proofs.Columns.{column_length, column_in}
use Rattle.rules.specs.Placement.{placed, apart, together}
use Rattle.rules.specs.Rules.{residence_broken, co_residence_broken, exclusion_broken, memory_on, memory_broken, load_on, utilisation_broken, crosses, amount_of, traffic, network_broken, Keeps}
use Rattle.rules.proofs.Where.{apart_elim, apart_intro, together_elim, together_intro, pair_elim, pair_intro}
use Rattle.judge.specs.Judge.{PlacementOf}
use Rattle.partial.proofs.OneMore.{kept_le, le_kept}
use Rattle.rules.proofs.Placed.{placed_at, placed_is}

-- ---- p and q exchanged

pub exchange : ℕ → ℕ → ℕ → ℕ
exchange p q r = cond (eqb r p) q (cond (eqb r q) p r)

-- what becomes of a number
pub data Exchanged (p q r y : ℕ) : Type 0 where
  first : r ≡ p → y ≡ q → Exchanged p q r y
  second : r ≡ q → y ≡ p → Exchanged p q r y
  other : r ≢ p → r ≢ q → y ≡ r → Exchanged p q r y

module _ (p q : ℕ) where
  pub exchanged : (r : ℕ) → Exchanged p q r (exchange p q r)
  unfolding exchange
  exchanged r = go (ℕ_discrete r p) (ℕ_discrete r q)
    where
      go : Dec (r ≡ p) → Dec (r ≡ q) → Exchanged p q r (exchange p q r)
      go (yes a) _ = first a (rw (eq-eqb r p a) refl)
      go (no a) (yes b) = second b (rw (ne_eqb r p a, eq-eqb r q b) refl)
      go (no a) (no b) = other a b (rw (ne_eqb r p a, ne_eqb r q b) refl)

  -- twice is nothing
  pub exchange_back : (r : ℕ) → exchange p q (exchange p q r) ≡ r
  exchange_back r = go (exchanged r) (exchanged (exchange p q r))
    where
      go : {y z : ℕ} → Exchanged p q r y → Exchanged p q y z → z ≡ r
      go (first a b) (first c d) = omega arith
      go (first a b) (second c d) = omega arith
      go (first a b) (other c d e) = absurd (d b)
      go (second a b) (first c d) = omega arith
      go (second a b) (second c d) = omega arith
      go (second a b) (other c d e) = absurd (c b)
      go (other a b e) (first c d) = absurd (a (sym e ∙ c))
      go (other a b e) (second c d) = absurd (b (sym e ∙ c))
      go (other a b e) (other c d f) = f ∙ e

  pub exchange_low : {m : ℕ} → p < m → q < m → (r : ℕ) → r < m → exchange p q r < m
  exchange_low {m} lp lq r l = go (exchanged r)
    where
      go : {y : ℕ} → Exchanged p q r y → y < m
      go (first a b) = omega arith
      go (second a b) = omega arith
      go (other a b e) = omega arith

-- ---- a placement under an involution of the processors

pub renamed : (ℕ → ℕ) → List ℕ → List ℕ
renamed σ x = column (length x) (length x) (λ k. σ (get_or x k 0))

module _ (σ : ℕ → ℕ) (x : List ℕ) where
  renamed_long : length (renamed σ x) ≡ length x
  unfolding renamed
  renamed_long = column_length (length x) (length x) (λ k. σ (get_or x k 0))

  renamed_at : (k : ℕ) → k < length x → get_or (renamed σ x) k 0 ≡ σ (get_or x k 0)
  unfolding renamed
  renamed_at k l = column_in (length x) (length x) (λ j. σ (get_or x j 0)) k (omega arith) l

  -- a task stands on r where it stood on the partner of r
  pub renamed_placed : ((r : ℕ) → σ (σ r) ≡ r) → placed (renamed σ x) ≡ (λ k r. placed x k (σ r))
  renamed_placed back = fun_ext (λ k. fun_ext (λ r. same_test (placed (renamed σ x) k r) (placed x k (σ r)) (was k r) (is k r)))
    where
      was : (k r : ℕ) → T (placed (renamed σ x) k r) → T (placed x k (σ r))
      was k r u =
          let w = placed_is (renamed σ x) k r u in
          let l : k < length x = omega (arith, w.0, renamed_long) in
          subst (λ (y : ℕ). T (placed x k y)) (sym (back (get_or x k 0)) ∙ ap σ (sym (renamed_at k l) ∙ w.1)) (placed_at x k l)

      is : (k r : ℕ) → T (placed x k (σ r)) → T (placed (renamed σ x) k r)
      is k r u =
          let w = placed_is x k (σ r) u in
          subst (λ (y : ℕ). T (placed (renamed σ x) k y)) (renamed_at k w.0 ∙ ap σ w.1 ∙ back r) (placed_at (renamed σ x) k (rw renamed_long w.0))

  pub renamed_placement : {t : Table} → ((r : ℕ) → r < t.processors.count → σ r < t.processors.count) → PlacementOf t x → PlacementOf t (renamed σ x)
  renamed_placement low w = record {
    long = renamed_long ∙ w.long;
    known = λ k l. let m : k < length x = omega (arith, renamed_long) in rw (renamed_at k m) (low (get_or x k 0) (w.known k m));
  }

-- the rules that name no processor are kept; the others, where each processor allows what its partner had
module _ (t : Table) (on : ℕ → ℕ → Bool) (σ : ℕ → ℕ) (back : (r : ℕ) → σ (σ r) ≡ r) (low : (r : ℕ) → r < t.processors.count → σ r < t.processors.count) where
  apart_back : (i j : ℕ) → T (apart t.processors.count (λ r. on i (σ r)) (λ r. on j (σ r))) → T (apart t.processors.count (on i) (on j))
  apart_back i j u =
      let m = t.processors.count in
      let a = apart_elim m (λ r. on i (σ r)) (λ r. on j (σ r)) u in
      apart_intro m (on i) (on j) (low a.0 a.2) (low a.1 a.3) (λ e. a.4 (sym (back a.1) ∙ ap σ e ∙ back a.0)) a.5 a.6

  together_back : (i j : ℕ) → T (together t.processors.count (λ r. on i (σ r)) (λ r. on j (σ r))) → T (together t.processors.count (on i) (on j))
  together_back i j u =
      let m = t.processors.count in
      let a = together_elim m (λ r. on i (σ r)) (λ r. on j (σ r)) u in
      together_intro m (on i) (on j) (low a.0 a.1) a.2 a.3

  traffic_back : traffic t (λ k r. on k (σ r)) ≤ traffic t on
  unfolding traffic
  traffic_back =
      sum_more t.messages.count (crosses t (λ k r. on k (σ r))) (crosses t on) (amount_of t)
      (λ j l. apart_back (get_or t.messages.sender j 0) (get_or t.messages.receiver j 0))

  pub keeps_renamed : Keeps t on
      → ((k r : ℕ) → k < t.tasks.count → r < t.processors.count → T (on k (σ r)) → has (get_or t.tasks.residence k 0) r ≡ has (get_or t.tasks.residence k 0) (σ r))
      → ((r : ℕ) → r < t.processors.count → memory_on t on (σ r) ≤ get_or t.processors.memory r 0)
      → ((r : ℕ) → r < t.processors.count → 1000 * load_on t on (σ r) ≤ get_or t.processors.limit r 0 * t.hyperperiod)
      → Keeps t (λ k r. on k (σ r))
  unfolding residence_broken co_residence_broken exclusion_broken memory_broken memory_on utilisation_broken load_on network_broken
  keeps_renamed keeps same memory load =
      let n = t.tasks.count in
      let m = t.processors.count in
      record {
        residence = λ k l u.
            let out : ℕ → Bool = λ r. not (has (get_or t.tasks.residence k 0) r) in
            let r = some_elim m (λ r. on k (σ r) && out r) u in
            let here = and_left (on k (σ r.0)) (out r.0) r.2 in
            keeps.residence k l (some_intro m (λ r. on k r && out r) (σ r.0) (low r.0 r.1)
            (and_both (on k (σ r.0)) (out (σ r.0)) here (rw (same k r.0 l r.1 here) at (and_right (on k (σ r.0)) (out r.0) r.2))));
        co_residence = λ g l u.
            let s = pair_elim n (get_or t.co.mask g 0) (λ i j. apart m (λ r. on i (σ r)) (λ r. on j (σ r))) u in
            keeps.co_residence g l (pair_intro n (get_or t.co.mask g 0) (λ i j. apart m (on i) (on j)) s.0 s.1 s.2 s.3 s.4 s.5 (apart_back s.0 s.1 s.6));
        exclusion = λ g l u.
            let s = pair_elim n (get_or t.ex.mask g 0) (λ i j. not (eqb i j) && together m (λ r. on i (σ r)) (λ r. on j (σ r))) u in
            let i = s.0 in
            let j = s.1 in
            let before = together m (on i) (on j) in
            let after = together m (λ r. on i (σ r)) (λ r. on j (σ r)) in
            keeps.exclusion g l (pair_intro n (get_or t.ex.mask g 0) (λ i j. not (eqb i j) && together m (on i) (on j)) i j s.2 s.3 s.4 s.5
            (and_both (not (eqb i j)) before (and_left (not (eqb i j)) after s.6) (together_back i j (and_right (not (eqb i j)) after s.6))));
        memory = λ r l. le_kept (get_or t.processors.memory r 0) (memory_on t on (σ r)) (memory r l);
        utilisation = λ r l. le_kept (get_or t.processors.limit r 0 * t.hyperperiod) (1000 * load_on t on (σ r)) (load r l);
        network =
            let most = t.capacity * t.hyperperiod in
            le_kept most (traffic t (λ k r. on k (σ r))) (omega (arith, traffic_back, kept_le most (traffic t on) keeps.network));
      }
