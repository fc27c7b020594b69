-- The mark of a list of conflicts, and what each test of it says of a placement. Assumes nothing.
use mathlib.Core.Path.{◌≡◌, refl, ap}
use mathlib.Core.Bool.{Bool, true, false, not, ◌&&◌}
use mathlib.Core.List.{List}
use Prim.Native.Nat.{ℕ, ◌<◌}
use native.Mathlib.Omega.{arith}
use native.Mathlib.Decide.{dec_lt}
use borrow.Author.Tests.{not-false}
use lib.Dec.{T, T_not, not_T, eqb, ltb, eqb→eq, ltb→lt}
use lib.ListN.{length, get_or}
use Rattle.finite.specs.Finite.{some_below}
use Rattle.finite.proofs.Some.{Answer, passes, fails, answer, some_intro, some_elim}
use Rattle.mask.specs.Mask.{has, within}
use Rattle.mask.proofs.Tests.{same_test, and_both, and_left, and_right}
use Rattle.mask.proofs.Laws.{subset_within, within_subset}
use Rattle.table.specs.declared.Table.{Table}
use Rattle.table.specs.Sound.{Sound}
use Rattle.std.specs.Prelude.{Ok, Err, is_ok}
use Rattle.rules.specs.Placement.{placed}
use Rattle.rules.specs.Rules.{Keeps, residence_broken, Check, first_broken}
use Rattle.rules.specs.Sets.{sets_of}
use Rattle.rules.proofs.Order.{kept_keeps, keeps_kept}
use Rattle.rules.proofs.Sets.{sets_placed}
use Rattle.judge.specs.Judge.{PlacementOf}
use Rattle.judge.proofs.Limits.{placeable_of}
use Rattle.goal.specs.Goal.{nth, first_good, keeps_rules, Resides, keeps_residence, AllOn, OnOne, holds, HoldsListed, uncovered, mark_of}
use Rattle.goal.proofs.First.{number_in, Before, number_nth, before_placement, before_nth}

-- ---- rules and residence

module _ (t : Table) (q : List ℕ) where
  pub rules_keep : T (keeps_rules t q) → Keeps t (placed q)
  unfolding keeps_rules
  rules_keep u = (kept_keeps t (placed q) (λ k. false) (go (first_broken t (placed q) (λ k. false)) u)).0
    where
      go : (c : Check) → T (is_ok c) → c ≡ Ok tt
      go (Ok x) u = refl
      go (Err b) u = absurd u

  pub keep_rules : Keeps t (placed q) → T (keeps_rules t q)
  unfolding keeps_rules
  keep_rules w = rw (keeps_kept t (placed q) (λ k. false) w (λ k l u. u)) tt

  pub residence_elim : T (keeps_residence t q) → Resides t q
  unfolding keeps_residence
  residence_elim u k l b = T_not (some_below t.tasks.count (residence_broken t (placed q))) u (some_intro t.tasks.count (residence_broken t (placed q)) k l b)

  pub residence_intro : Resides t q → T (keeps_residence t q)
  unfolding keeps_residence
  residence_intro f = not_T (some_below t.tasks.count (residence_broken t (placed q))) (λ u. let r = some_elim t.tasks.count (residence_broken t (placed q)) u in f r.0 r.1 r.2)

-- ---- conflicts

-- tasks stand only on the table's processors
pub stands_known : {t : Table} {q : List ℕ} → PlacementOf t q → (k p : ℕ) → T (placed q k p) → p < t.processors.count
stands_known {t} {q} w k p u =
    let l = ltb→lt k (length q) (and_left (ltb k (length q)) (eqb (get_or q k 0) p) u) in
    omega (arith, w.known k l, eqb→eq (get_or q k 0) p (and_right (ltb k (length q)) (eqb (get_or q k 0) p) u))

module _ {t : Table} (s : Sound t) {q : List ℕ} (w : PlacementOf t q) where
  same_set : (k p : ℕ) → has (get_or (sets_of q) p 0) k ≡ placed q k p
  same_set k p = ap (λ (on : ℕ → ℕ → Bool). on k p) (sets_placed q (placeable_of s w))

  module _ (c : ℕ) where
    -- any p will do: beyond the processors no task stands, so c has none, and stands on each
    pub on_one_lem : (p : ℕ) → AllOn q c p → OnOne t q c
    on_one_lem p f = go (dec_lt p t.processors.count)
      where
        go : Dec (p < t.processors.count) → OnOne t q c
        go (yes l) = (p, l, f)
        go (no l) = (0, s.processors.some, λ k u. absurd (l (stands_known w k p (f k u))))

    pub holds_intro : OnOne t q c → T (holds t q c)
    unfolding holds
    holds_intro x =
        some_intro t.processors.count (λ p. within c (get_or (sets_of q) p 0)) x.0 x.1
        (subset_within c (get_or (sets_of q) x.0 0) (λ k u. rw (same_set k x.0) (x.2 k u)))

    pub holds_elim : T (holds t q c) → OnOne t q c
    unfolding holds
    holds_elim u =
        let r = some_elim t.processors.count (λ p. within c (get_or (sets_of q) p 0)) u in
        (r.0, r.1, λ k h. rw (same_set k r.0) at (within_subset c (get_or (sets_of q) r.0 0) r.2 k h))

-- ---- the mark

-- all tasks of some listed conflict stand on one processor, as a test
abbrev listed_test : Table → List ℕ → List ℕ → Bool
listed_test t cs e = some_below (length cs) (λ j. holds t e (get_or cs j 0))

-- some placement before the first good one keeps the rules and holds no listed conflict
abbrev some_uncovered : Table → List ℕ → Bool
some_uncovered t cs = some_below (first_good t) (λ i. uncovered t cs (nth t i))

module _ {t : Table} (s : Sound t) (cs : List ℕ) where
  module _ {e : List ℕ} (w : PlacementOf t e) where
    listed_intro : HoldsListed t cs e → T (listed_test t cs e)
    listed_intro h = some_intro (length cs) (λ j. holds t e (get_or cs j 0)) h.0 h.1 (holds_intro s w (get_or cs h.0 0) h.2)

    listed_elim : T (listed_test t cs e) → HoldsListed t cs e
    listed_elim u =
        let r = some_elim (length cs) (λ j. holds t e (get_or cs j 0)) u in
        (r.0, r.1, holds_elim s w (get_or cs r.0 0) r.2)

    uncovered_intro : Keeps t (placed e) → (T (listed_test t cs e) → ⊥) → T (uncovered t cs e)
    unfolding uncovered
    uncovered_intro k f = and_both (keeps_rules t e) (not (listed_test t cs e)) (keep_rules t e k) (not_T (listed_test t cs e) f)

    uncovered_elim : T (uncovered t cs e) → Keeps t (placed e) × (HoldsListed t cs e → ⊥)
    unfolding uncovered
    uncovered_elim u = (
      rules_keep t e (and_left (keeps_rules t e) (not (listed_test t cs e)) u),
      λ h. T_not (listed_test t cs e) (and_right (keeps_rules t e) (not (listed_test t cs e)) u) (listed_intro h),
    )

    -- an earlier placement, by its number
    uncovered_before : Before t e → T (uncovered t cs e) → T (some_uncovered t cs)
    uncovered_before b u = some_intro (first_good t) (λ i. uncovered t cs (nth t i)) (number_in t e) b (rw (number_nth w) u)

  -- 1: complete
  pub mark_complete : ((e : List ℕ) → PlacementOf t e → Before t e → Keeps t (placed e) → HoldsListed t cs e) → mark_of t cs ≡ true
  unfolding mark_of
  mark_complete f = same_test (mark_of t cs) true (λ u. tt) (λ u. not_T (some_uncovered t cs) none)
    where
      none : T (some_uncovered t cs) → ⊥
      none v =
          let r = some_elim (first_good t) (λ i. uncovered t cs (nth t i)) v in
          let w = before_placement t r.1 in
          let n = uncovered_elim w r.2 in
          n.1 (f (nth t r.0) w (before_nth t r.1) n.0)

  pub complete_listed : mark_of t cs ≡ true → {e : List ℕ} → PlacementOf t e → Before t e → Keeps t (placed e) → HoldsListed t cs e
  unfolding mark_of
  complete_listed m {e} w b k = go (answer (listed_test t cs e))
    where
      go : Answer (listed_test t cs e) → HoldsListed t cs e
      go (passes u) = listed_elim w u
      go (fails f) = absurd (T_not (some_uncovered t cs) (rw m tt) (uncovered_before w b (uncovered_intro w k f)))

  -- 0: cut
  pub mark_cut_lem : {e : List ℕ} → PlacementOf t e → Before t e → Keeps t (placed e) → (HoldsListed t cs e → ⊥) → mark_of t cs ≡ false
  unfolding mark_of
  mark_cut_lem w b k f = same_test (mark_of t cs) false (λ u. T_not (some_uncovered t cs) u (uncovered_before w b (uncovered_intro w k (λ h. f (listed_elim w h))))) absurd

  pub cut_listed : mark_of t cs ≡ false → (e : List ℕ) × PlacementOf t e × Before t e × Keeps t (placed e) × (HoldsListed t cs e → ⊥)
  unfolding mark_of
  cut_listed m =
      let r = some_elim (first_good t) (λ i. uncovered t cs (nth t i)) (rw (not-false (some_uncovered t cs) m) tt) in
      let w = before_placement t r.1 in
      let n = uncovered_elim w r.2 in
      (nth t r.0, w, before_nth t r.1, n.0, n.1)

-- ---- conflicts that an earlier placement holds, with every task in its residence

module _ {t : Table} (s : Sound t) (c : ℕ) where
  pub met_intro : {e : List ℕ} → PlacementOf t e → Before t e → Resides t e → OnOne t e c
      → T (some_below (first_good t) (λ i. keeps_residence t (nth t i) && holds t (nth t i) c))
  met_intro {e} w b r o =
      some_intro (first_good t) (λ i. keeps_residence t (nth t i) && holds t (nth t i) c) (number_in t e) b
      (rw (number_nth w) (and_both (keeps_residence t e) (holds t e c) (residence_intro t e r) (holds_intro s w c o)))

  pub met_elim : T (some_below (first_good t) (λ i. keeps_residence t (nth t i) && holds t (nth t i) c))
      → (e : List ℕ) × PlacementOf t e × Before t e × Resides t e × OnOne t e c
  met_elim u =
      let r = some_elim (first_good t) (λ i. keeps_residence t (nth t i) && holds t (nth t i) c) u in
      let e = nth t r.0 in
      let w = before_placement t r.1 in
      (e, w, before_nth t r.1, residence_elim t e (and_left (keeps_residence t e) (holds t e c) r.2), holds_elim s w c (and_right (keeps_residence t e) (holds t e c) r.2))
