-- What a fair placement has on a processor; where no placement is fair, the region is refuted. Assumes nothing.
use mathlib.Core.Path.{◌≡◌, refl, sym, subst, ◌∙◌}
use mathlib.Core.Logic.{◌⊎◌, inl, inr, ⊎_elim}
use mathlib.Core.Bool.{Bool, true, false, not, ◌&&◌}
use mathlib.Core.List.{List}
use Prim.Native.Nat.{ℕ, zero, suc, ◌<◌}
use native.Mathlib.Decide.{ℕ_discrete}
use native.Mathlib.Omega.{arith}
use lib.Dec.{T, eqb, ltb, lt→ltb}
use lib.ListN.{length, get_or}
use Rattle.finite.specs.Finite.{some_below}
use Rattle.finite.proofs.Some.{Answer, passes, fails, answer}
use Rattle.mask.specs.Mask.{has, mask_of, within}
use Rattle.mask.proofs.Tests.{same_test, and_both, and_right}
use Rattle.mask.proofs.Laws.{has_mask}
use Rattle.table.specs.declared.Table.{Table}
use Rattle.table.specs.Sound.{Sound}
use Rattle.schedule.proofs.LateSets.{late?}
use Rattle.rules.specs.Placement.{placed, together}
use Rattle.rules.specs.Rules.{exclusion_broken}
use Rattle.rules.specs.Sets.{standing}
use Rattle.rules.proofs.Where.{differ, together_intro, pair_intro}
use Rattle.timing.specs.Timing.{tasks_in}
use Rattle.timing.proofs.Limits.{valid_tasks, constrained_tasks}
use Rattle.judge.specs.Judge.{PlacementOf}
use Rattle.answer.specs.Answer.{mask_at}
use Rattle.rows.specs.Rows.{exclusions_of}
use Rattle.rows.proofs.Laws.{neighbours_get, beside_out}
use Rattle.partial.specs.declared.State.{State}
use Rattle.partial.specs.Partial.{Fits}
use Rattle.nogoods.specs.Nogoods.{Covered, Bad}
use Rattle.nogoods.proofs.Growth.{covered_more, covered_yes, covered_no}
use Rattle.region.specs.Region.{Within, Refuted}
use Rattle.rules.proofs.Placed.{placed_is}
use Rattle.candidates.specs.Candidates.{Fair}

module _ {t : Table} {s : State} {B : (ℕ → Bool) → Type 0} {q : List ℕ} (w : Fair t s B q) where
  -- a task that q has on p stands there or is open
  pub stands_or_open : Fits t s → (k p : ℕ) → T (placed q k p) → T (has (get_or s.on p 0) k) ⊎ T (has s.left k)
  stands_or_open f k p v = go (answer (has s.left k))
    where
      go : Answer (has s.left k) → T (has (get_or s.on p 0) k) ⊎ T (has s.left k)
      go (passes u) = inr u
      go (fails g) =
          let r = f.placed_task k (omega (arith, (placed_is q k p v).0, w.whole.long)) g in
          let e : r.0 ≡ p = sym (placed_is q k r.0 (w.inside k r.0 r.1)).1 ∙ (placed_is q k p v).1 in
          inl (rw e at r.1)

  -- two tasks that are excluded from each other are not both there
  pub not_both_there : Sound t → {p : ℕ} → p < t.processors.count → (j k : ℕ) → k < t.tasks.count → T (placed q j p) → T (placed q k p) → T (has (get_or (exclusions_of t) k 0) j) → ⊥
  unfolding exclusion_broken
  not_both_there h low j k l u v x =
      let o = beside_out t.ex t.tasks.count k j (subst (λ (m : ℕ). T (has m j)) (neighbours_get t h t.ex k l) x) in
      let m = t.processors.count in
      w.keeps.exclusion o.2 o.3
      (pair_intro t.tasks.count (get_or t.ex.mask o.2 0) (λ i r. not (eqb i r) && together m (placed q i) (placed q r)) j k o.0 l o.5 o.4
      (and_both (not (eqb j k)) (together m (placed q j) (placed q k)) (differ j k o.1) (together_intro m (placed q j) (placed q k) low u v)))

-- ---- where no placement is fair, the region is refuted

-- a kind that is decided, over the numbers below m
find : (m : ℕ) (B : ℕ → Type 0) → ((p : ℕ) → Dec (B p)) → ((p : ℕ) × B p) ⊎ ((p : ℕ) → p < m → B p → ⊥)
find zero B d = inr (λ p l b. omega arith)
find (suc m) B d = go (find m B d) (d m)
  where
    go : ((p : ℕ) × B p) ⊎ ((p : ℕ) → p < m → B p → ⊥) → Dec (B m) → ((p : ℕ) × B p) ⊎ ((p : ℕ) → p < suc m → B p → ⊥)
    go (inl r) e = inl r
    go (inr g) (yes b) = inl (m, b)
    go (inr g) (no e) = inr (λ p l b. last p l b (ℕ_discrete p m))
      where
        last : (p : ℕ) → p < suc m → B p → Dec (p ≡ m) → ⊥
        last p l b (yes i) = e (subst B i b)
        last p l b (no i) = g p (omega arith) b

-- a set of numbers below n, as a mask
covered? : (list : List ℕ) (count n : ℕ) (x : ℕ → Bool) → ((k : ℕ) → T (x k) → k < n) → Dec (Covered list count x)
covered? list count n x low = go (answer (some_below count (λ j. within (mask_at list j) (mask_of n x))))
  where
    forth : (k : ℕ) → T (has (mask_of n x) k) → T (x k)
    forth k u = and_right (ltb k n) (x k) (rw (has_mask n x k) at u)

    back : (k : ℕ) → T (x k) → T (has (mask_of n x) k)
    back k u = rw (has_mask n x k) (and_both (ltb k n) (x k) (lt→ltb k n (low k u)) u)

    go : Answer (some_below count (λ j. within (mask_at list j) (mask_of n x))) → Dec (Covered list count x)
    go (passes u) = yes (covered_more forth (covered_yes list count (mask_of n x) refl (same_test _ true (λ v. tt) (λ v. u))))
    go (fails g) = no (λ c. covered_no list count (mask_of n x) refl (same_test _ false g (λ v. absurd v)) (covered_more back c))

module _ {t : Table} (h : Sound t) (listing : Bool) (list : List ℕ) (count : ℕ) where
  bad? : {q : List ℕ} → PlacementOf t q → (b : Bool) (p : ℕ) → Dec (Bad (tasks_in t) b list count (λ k. placed q k p))
  bad? {q} w false p = late? (tasks_in t) (valid_tasks h) (λ k. placed q k p) (constrained_tasks h)
  bad? {q} w true p = covered? list count (length q) (λ k. placed q k p) (λ k u. (placed_is q k p u).0)

  pub refuted_fair : {s : State} → ((q : List ℕ) → Fair t s (Bad (tasks_in t) listing list count) q → ⊥) → Refuted t (Bad (tasks_in t) listing list count) (Within (standing s.on))
  refuted_fair g q w part keeps = ⊎_elim (λ r. r) (λ none. absurd (g q (record { whole = w; inside = part; keeps = keeps; clear = none }))) (find t.processors.count (λ p. Bad (tasks_in t) listing list count (λ k. placed q k p)) (bad? w listing))
