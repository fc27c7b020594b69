-- What one more task on a processor adds to the sums. Assumes nothing.
use mathlib.Core.Path.{◌≡◌, refl, sym, ap, ◌∙◌}
use mathlib.Core.Logic.{◌≢◌, ◌⊎◌, inl, inr}
use mathlib.Core.Bool.{Bool, ◌&&◌, ◌||◌}
use Prim.Native.Nat.{ℕ, ◌+◌, ◌*◌, ◌/◌, ◌<◌}
use native.Mathlib.Omega.{arith}
use borrow.Author.Tests.{ne_eqb}
use lib.Dec.{T, eqb, eqb→eq, eqb_refl}
use lib.ListN.{get_or}
use Rattle.finite.specs.Finite.{only, sum_to}
use Rattle.finite.proofs.Sum.{sum_at, sum_ext}
use Rattle.finite.proofs.Some.{or_left, or_right, or_either}
use Rattle.finite.proofs.Only.{only_in, only_out, sum_either}
use Rattle.mask.proofs.Tests.{same_test, and_both, and_left, and_right}
use Rattle.table.specs.declared.Table.{Table}
use Rattle.table.specs.Sound.{Sound}
use Rattle.rules.specs.Placement.{and_task, elsewhere, apart}
use Rattle.rules.specs.Rules.{memory_on, load_on, crosses, crosses_by, amount_of, traffic}
use Rattle.rules.proofs.Where.{elsewhere_elim, elsewhere_intro, apart_elim, apart_intro}
use Rattle.rules.proofs.Monotone.{apart_more}

-- task k stands on p too: an old place, or the new one
stood : (on : ℕ → ℕ → Bool) (k p i r : ℕ) → T (and_task on k p i r) → ((i ≡ k) × (r ≡ p)) ⊎ T (on i r)
stood on k p i r t = go (or_either (eqb i k && eqb r p) (on i r) t)
  where
    go : T (eqb i k && eqb r p) ⊎ T (on i r) → ((i ≡ k) × (r ≡ p)) ⊎ T (on i r)
    go (inl u) = inl (eqb→eq i k (and_left (eqb i k) (eqb r p) u), eqb→eq r p (and_right (eqb i k) (eqb r p) u))
    go (inr u) = inr u

stays : (on : ℕ → ℕ → Bool) (k p i r : ℕ) → T (on i r) → T (and_task on k p i r)
stays on k p i r t = or_right (eqb i k && eqb r p) (on i r) t

stands : (on : ℕ → ℕ → Bool) (k p : ℕ) → T (and_task on k p k p)
stands on k p = or_left (eqb k k && eqb p p) (on k p) (and_both (eqb k k) (eqb p p) (eqb_refl k) (eqb_refl p))

-- ---- sums over the tasks of one processor

module _ (on : ℕ → ℕ → Bool) (k p n : ℕ) (f : ℕ → ℕ) where
  -- on p the new task's term
  pub step_sum : k < n → (T (on k p) → ⊥) → sum_to n (λ j. only (and_task on k p j p) (f j)) ≡ sum_to n (λ j. only (on j p) (f j)) + f k
  step_sum l new = sum_at n (λ j. only (and_task on k p j p) (f j)) (λ j. only (on j p) (f j)) k (f k) l other here
    where
      other : (j : ℕ) → j < n → j ≢ k → only (and_task on k p j p) (f j) ≡ only (on j p) (f j)
      other j _ d = rw (ne_eqb j k d) refl

      here : only (and_task on k p k p) (f k) ≡ only (on k p) (f k) + f k
      here = omega (arith, only_in (and_task on k p k p) (f k) (stands on k p), only_out (on k p) (f k) new)

  -- on another processor nothing
  pub step_other : {r : ℕ} → r ≢ p → sum_to n (λ j. only (and_task on k p j r) (f j)) ≡ sum_to n (λ j. only (on j r) (f j))
  step_other {r} d = sum_ext n (λ j. only (and_task on k p j r) (f j)) (λ j. only (on j r) (f j)) same
    where
      same : (j : ℕ) → j < n → only (and_task on k p j r) (f j) ≡ only (on j r) (f j)
      same j _ = ap (λ (b : Bool). only b (f j)) (same_test (and_task on k p j r) (on j r) back (stays on k p j r))
        where
          back : T (and_task on k p j r) → T (on j r)
          back t = go (stood on k p j r t)
            where
              go : ((j ≡ k) × (r ≡ p)) ⊎ T (on j r) → T (on j r)
              go (inl e) = absurd (d e.1)
              go (inr u) = u

module _ (t : Table) (on : ℕ → ℕ → Bool) (k p : ℕ) where
  pub step_memory : k < t.tasks.count → (T (on k p) → ⊥) → memory_on t (and_task on k p) p ≡ memory_on t on p + get_or t.tasks.memory k 0
  unfolding memory_on
  step_memory = step_sum on k p t.tasks.count (λ j. get_or t.tasks.memory j 0)

  pub step_memory_other : {r : ℕ} → r ≢ p → memory_on t (and_task on k p) r ≡ memory_on t on r
  unfolding memory_on
  step_memory_other = step_other on k p t.tasks.count (λ j. get_or t.tasks.memory j 0)

  pub step_load : k < t.tasks.count → (T (on k p) → ⊥) → load_on t (and_task on k p) p ≡ load_on t on p + get_or t.tasks.c k 0 * t.hyperperiod / get_or t.tasks.t k 0
  unfolding load_on
  step_load = step_sum on k p t.tasks.count (λ j. get_or t.tasks.c j 0 * t.hyperperiod / get_or t.tasks.t j 0)

  pub step_load_other : {r : ℕ} → r ≢ p → load_on t (and_task on k p) r ≡ load_on t on r
  unfolding load_on
  step_load_other = step_other on k p t.tasks.count (λ j. get_or t.tasks.c j 0 * t.hyperperiod / get_or t.tasks.t j 0)

-- ---- the network

-- two different tasks are apart with task k on p: they were, or one is k and the other stands elsewhere
module _ (m : ℕ) (on : ℕ → ℕ → Bool) (k p : ℕ) (low : p < m) where
  pub step_apart : (i j : ℕ) → i ≢ j
      → apart m (and_task on k p i) (and_task on k p j) ≡ (apart m (on i) (on j) || ((eqb i k && elsewhere m p (on j)) || (eqb j k && elsewhere m p (on i))))
  step_apart i j d = same_test (apart m (and_task on k p i) (and_task on k p j)) (before || (first || second)) forth back
    where
      before : Bool
      before = apart m (on i) (on j)

      first : Bool
      first = eqb i k && elsewhere m p (on j)

      second : Bool
      second = eqb j k && elsewhere m p (on i)

      by_first : i ≡ k → T (elsewhere m p (on j)) → T (before || (first || second))
      by_first e u = or_right before (first || second) (or_left first second (and_both (eqb i k) (elsewhere m p (on j)) (rw e (eqb_refl k)) u))

      by_second : j ≡ k → T (elsewhere m p (on i)) → T (before || (first || second))
      by_second e u = or_right before (first || second) (or_right first second (and_both (eqb j k) (elsewhere m p (on i)) (rw e (eqb_refl k)) u))

      forth : T (apart m (and_task on k p i) (and_task on k p j)) → T (before || (first || second))
      forth t = let s = apart_elim m (and_task on k p i) (and_task on k p j) t in go s.2 s.3 s.4 (stood on k p i s.0 s.5) (stood on k p j s.1 s.6)
        where
          go : {q r : ℕ} → q < m → r < m → r ≢ q → ((i ≡ k) × (q ≡ p)) ⊎ T (on i q) → ((j ≡ k) × (r ≡ p)) ⊎ T (on j r) → T (before || (first || second))
          go a b c (inl x) (inl y) = absurd (d (x.0 ∙ sym y.0))
          go a b c (inl x) (inr u) = by_first x.0 (elsewhere_intro m (on j) b (λ e. c (e ∙ sym x.1)) u)
          go a b c (inr u) (inl y) = by_second y.0 (elsewhere_intro m (on i) a (λ e. c (y.1 ∙ sym e)) u)
          go a b c (inr u) (inr v) = or_left before (first || second) (apart_intro m (on i) (on j) a b c u v)

      back : T (before || (first || second)) → T (apart m (and_task on k p i) (and_task on k p j))
      back t = go (or_either before (first || second) t)
        where
          new : (q : ℕ) → T (eqb q k) → T (and_task on k p q p)
          new q t = rw (eqb→eq q k t) (stands on k p)

          side : T first ⊎ T second → T (apart m (and_task on k p i) (and_task on k p j))
          side (inl u) =
              let e = elsewhere_elim m (on j) (and_right (eqb i k) (elsewhere m p (on j)) u) in
              apart_intro m (and_task on k p i) (and_task on k p j) low e.1 e.2 (new i (and_left (eqb i k) (elsewhere m p (on j)) u)) (stays on k p j e.0 e.3)
          side (inr u) =
              let e = elsewhere_elim m (on i) (and_right (eqb j k) (elsewhere m p (on i)) u) in
              apart_intro m (and_task on k p i) (and_task on k p j) e.1 low (λ q. e.2 (sym q)) (stays on k p i e.0 e.3) (new j (and_left (eqb j k) (elsewhere m p (on i)) u))

          go : T before ⊎ T (first || second) → T (apart m (and_task on k p i) (and_task on k p j))
          go (inl u) = apart_more m (on i) (on j) (and_task on k p i) (and_task on k p j) (stays on k p i) (stays on k p j) u
          go (inr u) = side (or_either first second u)

-- the messages between the new task and a task that stands elsewhere
pub step_traffic : (t : Table) → Sound t → (on : ℕ → ℕ → Bool) (k p : ℕ) → p < t.processors.count → ((r : ℕ) → T (on k r) → ⊥)
    → traffic t (and_task on k p) ≡ traffic t on + sum_to t.messages.count (λ j. only (crosses_by t on k p j) (amount_of t j))
unfolding traffic
step_traffic t s on k p low new =
    sum_ext t.messages.count (λ j. only (crosses t (and_task on k p) j) (amount_of t j)) (λ j. only (crosses t on j || crosses_by t on k p j) (amount_of t j))
    (λ j l. ap (λ (b : Bool). only b (amount_of t j)) (step_apart t.processors.count on k p low (from j) (to j) (s.messages.apart j l)))
    ∙ sum_either t.messages.count (crosses t on) (crosses_by t on k p) (amount_of t) (λ j l. disjoint j)
  where
    m : ℕ
    m = t.processors.count

    from : ℕ → ℕ
    from j = get_or t.messages.sender j 0

    to : ℕ → ℕ
    to j = get_or t.messages.receiver j 0

    disjoint : (j : ℕ) → T (crosses t on j) → T (crosses_by t on k p j) → ⊥
    disjoint j c b =
        let a = apart_elim m (on (from j)) (on (to j)) c in
        go a.0 a.1 a.5 a.6 (or_either (eqb (from j) k && elsewhere m p (on (to j))) (eqb (to j) k && elsewhere m p (on (from j))) b)
      where
        go : (q r : ℕ) → T (on (from j) q) → T (on (to j) r) → T (eqb (from j) k && elsewhere m p (on (to j))) ⊎ T (eqb (to j) k && elsewhere m p (on (from j))) → ⊥
        go q r u v (inl w) = new q (rw (eqb→eq (from j) k (and_left (eqb (from j) k) (elsewhere m p (on (to j))) w)) at u)
        go q r u v (inr w) = new r (rw (eqb→eq (to j) k (and_left (eqb (to j) k) (elsewhere m p (on (from j))) w)) at v)
