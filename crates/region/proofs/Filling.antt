-- A partial placement is part of a whole one: the tasks that it leaves open go to their residences. Assumes nothing.
use mathlib.Core.Path.{◌≡◌, sym, subst, fun_ext, ◌∙◌}
use mathlib.Core.Bool.{Bool, true, false, not, cond, ◌&&◌}
use mathlib.Core.List.{List}
use Prim.Native.Nat.{ℕ, ◌<◌}
use native.Mathlib.Omega.{arith}
use borrow.Author.Tests.{lt-ltb, le-ltb}
use lib.Dec.{T, ltb}
use lib.ListN.{length, get_or}
use Rattle.finite.specs.Finite.{first_below}
use Rattle.finite.proofs.Search.{FirstBelow, first_below_lem, lowest, nowhere}
use Rattle.finite.proofs.Some.{some_intro, some_elim}
use Rattle.mask.specs.Mask.{has, lowest_of}
use Rattle.mask.proofs.Tests.{same_test, and_both, and_left, and_right}
use Rattle.mask.proofs.Laws.{Lowest, lowest_is}
use Rattle.table.specs.declared.Table.{Table}
use Rattle.table.specs.Sound.{Sound}
use Rattle.table.specs.Table.{column}
use Rattle.table.proofs.Columns.{column_length, column_in}
use Rattle.rules.specs.Placement.{placed, Part}
use Rattle.rules.specs.Rules.{residence_broken}
use Rattle.rules.specs.Sets.{standing}
use Rattle.rules.proofs.Placed.{placed_at, placed_is}
use Rattle.judge.specs.Judge.{PlacementOf}
use Rattle.partial.specs.Partial.{Whole}

-- where a task of a whole placement that holds `on` may stand
pub data Home (t : Table) (on : ℕ → ℕ → Bool) (k p : ℕ) : Type 0 where
  stays : T (on k p) → Home t on k p
  resides : ((r : ℕ) → T (on k r) → ⊥) → T (has (get_or t.tasks.residence k 0) p) → Home t on k p

module _ {t : Table} (h : Sound t) (on : ℕ → ℕ → Bool) (inside : (k p : ℕ) → T (on k p) → p < t.processors.count) where
  home : ℕ → ℕ
  home k = cond (ltb (first_below t.processors.count (on k)) t.processors.count) (first_below t.processors.count (on k)) (lowest_of t.processors.count (get_or t.tasks.residence k 0))

  at_home : (k : ℕ) → k < t.tasks.count → (home k < t.processors.count) × Home t on k (home k)
  unfolding home
  at_home k l = go (first_below_lem t.processors.count (on k))
    where
      low : Lowest t.processors.count (get_or t.tasks.residence k 0) (lowest_of t.processors.count (get_or t.tasks.residence k 0))
      low = lowest_is t.processors.count (get_or t.tasks.residence k 0) (h.tasks.resides k l) (h.tasks.resides_below k l)

      go : FirstBelow t.processors.count (on k) (first_below t.processors.count (on k)) → (home k < t.processors.count) × Home t on k (home k)
      go (lowest b u f) = rw (lt-ltb (first_below t.processors.count (on k)) t.processors.count b) (b, stays u)
      go (nowhere e f) = rw (le-ltb (first_below t.processors.count (on k)) t.processors.count (omega arith)) (low.low, resides (λ r u. f r (inside k r u) u) low.member)

  pub filled : List ℕ
  filled = column t.tasks.count t.tasks.count home

  filled_at : (k : ℕ) → k < t.tasks.count → get_or filled k 0 ≡ home k
  unfolding filled
  filled_at k l = column_in t.tasks.count t.tasks.count home k (omega arith) l

  filled_long : length filled ≡ t.tasks.count
  unfolding filled
  filled_long = column_length t.tasks.count t.tasks.count home

  pub filled_placement : PlacementOf t filled
  filled_placement = record { long = filled_long; known = λ k l. rw (filled_at k (rw filled_long at l)) (at_home k (rw filled_long at l)).0 }

  filled_home : (k : ℕ) → k < t.tasks.count → Home t on k (get_or filled k 0)
  filled_home k l = rw (filled_at k l) (at_home k l).1

  pub filled_part : ((k p : ℕ) → T (on k p) → k < t.tasks.count) → ((k p r : ℕ) → T (on k p) → T (on k r) → p ≡ r) → Part on (placed filled)
  filled_part task once k p u = go (filled_home k (task k p u))
    where
      go : Home t on k (get_or filled k 0) → T (placed filled k p)
      go (stays v) = subst (λ (r : ℕ). T (placed filled k r)) (once k (get_or filled k 0) p v u) (placed_at filled k (rw filled_long (task k p u)))
      go (resides f v) = absurd (f p u)

  pub filled_resides : ((k : ℕ) → k < t.tasks.count → T (residence_broken t on k) → ⊥) → (k : ℕ) → k < t.tasks.count → T (residence_broken t (placed filled) k) → ⊥
  unfolding residence_broken
  filled_resides keeps k l u = go (filled_home k l)
    where
      away : ℕ → Bool
      away p = not (has (get_or t.tasks.residence k 0) p)

      found : (p : ℕ) × (p < t.processors.count) × T (placed filled k p && away p)
      found = some_elim t.processors.count (λ p. placed filled k p && away p) u

      there : get_or filled k 0 ≡ found.0
      there = (placed_is filled k found.0 (and_left (placed filled k found.0) (away found.0) found.2)).1

      out : T (away (get_or filled k 0))
      out = rw there (and_right (placed filled k found.0) (away found.0) found.2)

      go : Home t on k (get_or filled k 0) → ⊥
      go (stays v) = keeps k l (some_intro t.processors.count (λ p. on k p && away p) (get_or filled k 0) (rw there found.1) (and_both (on k (get_or filled k 0)) (away (get_or filled k 0)) v out))
      go (resides f v) = both (has (get_or t.tasks.residence k 0) (get_or filled k 0)) v out
        where
          both : (b : Bool) → T b → T (not b) → ⊥
          both true v o = o
          both false v o = v

-- a whole placement, as the list of its processors
pub whole_placement : {t : Table} → Sound t → {sets : List ℕ} → Whole t sets → (q : List ℕ) × PlacementOf t q × (placed q ≡ standing sets)
whole_placement {t} h {sets} w = (q, filled_placement h (standing sets) w.partial.processor, fun_ext (λ k. fun_ext (λ p. same_test (placed q k p) (standing sets k p) (forth k p) (back k p))))
  where
    q : List ℕ
    q = filled h (standing sets) w.partial.processor

    back : (k p : ℕ) → T (standing sets k p) → T (placed q k p)
    back = filled_part h (standing sets) w.partial.processor w.partial.task w.partial.once

    forth : (k p : ℕ) → T (placed q k p) → T (standing sets k p)
    forth k p u =
        let l = placed_is q k p u in
        let s = w.somewhere k (rw (filled_placement h (standing sets) w.partial.processor).long at l).0 in
        subst (λ (r : ℕ). T (standing sets k r)) (sym (placed_is q k s.0 (back k s.0 s.1)).1 ∙ l.1) s.1
