-- A conflict among the tasks on a processor and open tasks that may reside there is met in the region. Assumes nothing.
use mathlib.Core.Path.{◌≡◌, sym, ◌∙◌}
use mathlib.Core.Logic.{◌⊎◌, inl, inr, ⊎_elim}
use mathlib.Core.Bool.{Bool, true, false, not, ◌&&◌, ◌||◌}
use mathlib.Core.List.{List}
use Prim.Native.Nat.{ℕ, ◌<◌}
use lib.Dec.{T, eqb, eqb→eq, eqb_refl}
use lib.ListN.{get_or}
use Rattle.finite.proofs.Some.{or_left, or_right, or_either, some_intro, some_elim}
use Rattle.mask.specs.Mask.{has}
use Rattle.mask.proofs.Tests.{and_both, and_left, and_right}
use Rattle.table.specs.declared.Table.{Table}
use Rattle.table.specs.Sound.{Sound}
use Rattle.rules.specs.Placement.{placed, Part}
use Rattle.rules.specs.Rules.{residence_broken}
use Rattle.rules.specs.Sets.{standing}
use Rattle.partial.specs.declared.State.{State}
use Rattle.partial.specs.Partial.{Fits}
use Rattle.region.specs.Region.{Within, Met}
use Rattle.region.proofs.Filling.{filled, filled_placement, filled_part, filled_resides}

-- the state with the tasks x on p
abbrev with_all : List ℕ → (ℕ → Bool) → ℕ → ℕ → ℕ → Bool
with_all sets x p k r = (x k && eqb r p) || standing sets k r

-- a task of it is one of x, or stood there
stood : (sets : List ℕ) (x : ℕ → Bool) (p k r : ℕ) → T (with_all sets x p k r) → (T (x k) × (r ≡ p)) ⊎ T (standing sets k r)
stood sets x p k r u =
    ⊎_elim (λ v. inl (and_left (x k) (eqb r p) v, eqb→eq r p (and_right (x k) (eqb r p) v))) inr (or_either (x k && eqb r p) (standing sets k r) u)

pub not_both : (b : Bool) → T (not b) → T b → ⊥
not_both true u v = u
not_both false u v = v

module _ {t : Table} {s : State} (h : Sound t) (f : Fits t s) {p : ℕ} (low : p < t.processors.count) (x : ℕ → Bool) (waits : (k : ℕ) → T (x k) → T (has s.left k))
    (resides : (k : ℕ) → T (x k) → T (has (get_or t.tasks.residence k 0) p)) where
  processor : (k r : ℕ) → T (with_all s.on x p k r) → r < t.processors.count
  processor k r u = ⊎_elim (λ v. rw v.1 low) (f.partial.processor k r) (stood s.on x p k r u)

  task : (k r : ℕ) → T (with_all s.on x p k r) → k < t.tasks.count
  task k r u = ⊎_elim (λ v. (f.open_task k (waits k v.0)).0) (f.partial.task k r) (stood s.on x p k r u)

  once : (k r i : ℕ) → T (with_all s.on x p k r) → T (with_all s.on x p k i) → r ≡ i
  once k r i u v = go (stood s.on x p k r u) (stood s.on x p k i v)
    where
      go : (T (x k) × (r ≡ p)) ⊎ T (standing s.on k r) → (T (x k) × (i ≡ p)) ⊎ T (standing s.on k i) → r ≡ i
      go (inl a) (inl b) = a.1 ∙ sym b.1
      go (inl a) (inr b) = absurd ((f.open_task k (waits k a.0)).1 i b)
      go (inr a) (inl b) = absurd ((f.open_task k (waits k b.0)).1 r a)
      go (inr a) (inr b) = f.partial.once k r i a b

  resident : (k : ℕ) → k < t.tasks.count → T (residence_broken t (with_all s.on x p) k) → ⊥
  unfolding residence_broken
  resident k l u = go (stood s.on x p k found.0 (and_left (with_all s.on x p k found.0) (away found.0) found.2))
    where
      away : ℕ → Bool
      away r = not (has (get_or t.tasks.residence k 0) r)

      found : (r : ℕ) × (r < t.processors.count) × T (with_all s.on x p k r && away r)
      found = some_elim t.processors.count (λ r. with_all s.on x p k r && away r) u

      out : T (away found.0)
      out = and_right (with_all s.on x p k found.0) (away found.0) found.2

      go : (T (x k) × (found.0 ≡ p)) ⊎ T (standing s.on k found.0) → ⊥
      go (inl a) = not_both (has (get_or t.tasks.residence k 0) found.0) out (rw a.1 (resides k a.0))
      go (inr a) = f.keeps.residence k l (some_intro t.processors.count (λ r. standing s.on k r && away r) found.0 found.1 (and_both (standing s.on k found.0) (away found.0) a out))

  pub met_among : {c : ℕ} → ((k : ℕ) → T (has c k) → T (has (get_or s.on p 0) k || x k)) → Met t (Within (standing s.on)) c
  met_among {c} g = record {
    placement = filled h (with_all s.on x p) processor;
    whole = filled_placement h (with_all s.on x p) processor;
    inside = λ k r u. part k r (or_right (x k && eqb r p) (standing s.on k r) u);
    resides = filled_resides h (with_all s.on x p) processor resident;
    processor = p;
    holds = λ k u. part k p (⊎_elim (or_right (x k && eqb p p) (standing s.on k p)) (λ v. or_left (x k && eqb p p) (standing s.on k p) (and_both (x k) (eqb p p) v (eqb_refl p)))
        (or_either (has (get_or s.on p 0) k) (x k) (g k u)));
  }
    where
      part : Part (with_all s.on x p) (placed (filled h (with_all s.on x p) processor))
      part = filled_part h (with_all s.on x p) processor task once
