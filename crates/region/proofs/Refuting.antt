-- What refutes a region, what meets a conflict in it, and when a state is a placement of it. Assumes nothing.
use mathlib.Core.Path.{◌≡◌, sym, subst}
use mathlib.Core.Logic.{⊎_elim}
use mathlib.Core.Bool.{Bool, ◌&&◌}
use mathlib.Core.List.{List}
use Prim.Native.Nat.{ℕ, ◌<◌}
use native.Mathlib.Omega.{arith}
use lib.Dec.{T, eqb, eqb→eq, eqb_refl}
use lib.ListN.{length, get_or}
use Rattle.finite.proofs.Some.{or_left, or_right, or_either}
use Rattle.mask.specs.Mask.{has}
use Rattle.mask.proofs.Tests.{and_both, and_left, and_right}
use Rattle.table.specs.declared.Table.{Table}
use Rattle.table.specs.Sound.{Sound}
use Rattle.rules.specs.Placement.{placed, and_task, Part}
use Rattle.rules.specs.Rules.{Keeps}
use Rattle.rules.specs.Sets.{standing}
use Rattle.rules.proofs.Monotone.{keeps_part}
use Rattle.judge.specs.Judge.{PlacementOf}
use Rattle.partial.specs.declared.State.{State}
use Rattle.partial.specs.Partial.{Partial, Fits}
use Rattle.partial.proofs.Whole.{fits_whole}
use Rattle.region.specs.Region.{Within, Refuted, Met, Witness}
use Rattle.rules.proofs.Placed.{placed_at}
use Rattle.region.proofs.Filling.{filled, filled_placement, filled_part, filled_resides}

module _ (on : ℕ → ℕ → Bool) (k p : ℕ) where
  -- what holds of the placement with task k on p too: k stands there, and all others where they stood
  pub and_there : T (and_task on k p k p)
  and_there = or_left (eqb k k && eqb p p) (on k p) (and_both (eqb k k) (eqb p p) (eqb_refl k) (eqb_refl p))

  pub and_part : Part on (and_task on k p)
  and_part i r u = or_right (eqb i k && eqb r p) (on i r) u

  pub and_within : (all : ℕ → ℕ → Bool) → Part on all → T (all k p) → Part (and_task on k p) all
  and_within all part there i r u =
      ⊎_elim
      (λ v. subst (λ (x : ℕ). T (all x r)) (sym (eqb→eq i k (and_left (eqb i k) (eqb r p) v))) (subst (λ (x : ℕ). T (all k x)) (sym (eqb→eq r p (and_right (eqb i k) (eqb r p) v))) there))
      (part i r)
      (or_either (eqb i k && eqb r p) (on i r) u)

module _ (t : Table) (B : (ℕ → Bool) → Type 0) (on : ℕ → ℕ → Bool) where
  -- the placements of a region, by the processor of a task
  pub branch : {k : ℕ} → k < t.tasks.count → ((p : ℕ) → p < t.processors.count → Refuted t B (Within (and_task on k p))) → Refuted t B (Within on)
  branch {k} l f q w part =
      let there : k < length q = omega (arith, l, w.long) in
      f (get_or q k 0) (w.known k there) q w (and_within on k (get_or q k 0) (placed q) part (placed_at q k there))

  -- a part that breaks a rule
  pub refuted_broken : (Keeps t on → ⊥) → Refuted t B (Within on)
  refuted_broken f q w part keeps = absurd (f (keeps_part t on (placed q) part keeps))

  -- a set of the kind B on a processor, where larger sets are of that kind too
  pub refuted_set : (p : ℕ) → ((x y : ℕ → Bool) → ((k : ℕ) → T (x k) → T (y k)) → B x → B y) → B (λ k. on k p) → Refuted t B (Within on)
  refuted_set p more b q w part keeps = (p, more (λ k. on k p) (λ k. placed q k p) (λ k. part k p) b)

-- another kind, another region
pub refuted_map : (t : Table) (B C : (ℕ → Bool) → Type 0) (P Q : List ℕ → Type 0) → ((x : ℕ → Bool) → B x → C x) → ((q : List ℕ) → PlacementOf t q → Q q → P q) → Refuted t B P → Refuted t C Q
refuted_map t B C P Q f g r q w u keeps = let s = r q w (g q w u) keeps in (s.0, f _ s.1)

-- a larger region
pub met_map : {t : Table} {P Q : List ℕ → Type 0} {c : ℕ} → ((q : List ℕ) → PlacementOf t q → P q → Q q) → Met t P c → Met t Q c
met_map f m = record { placement = m.placement; whole = m.whole; inside = f m.placement m.whole m.inside; resides = m.resides; processor = m.processor; holds = m.holds }

-- a conflict on one processor of a partial placement that keeps the rules
pub met_here : {t : Table} → Sound t → {sets : List ℕ} → Partial t sets → Keeps t (standing sets) → {c : ℕ} (p : ℕ) → ((k : ℕ) → T (has c k) → T (standing sets k p)) → Met t (Within (standing sets)) c
met_here h {sets} w keeps p f = record {
  placement = filled h (standing sets) w.processor;
  whole = filled_placement h (standing sets) w.processor;
  inside = part;
  resides = filled_resides h (standing sets) w.processor keeps.residence;
  processor = p;
  holds = λ k u. part k p (f k u);
}
  where
    part : Part (standing sets) (placed (filled h (standing sets) w.processor))
    part = filled_part h (standing sets) w.processor w.task w.once

-- a state without open tasks
pub witness_end : {t : Table} {C : (ℕ → Bool) → Type 0} {s : State} → Fits t s → s.left ≡ 0 → ((p : ℕ) → C (has (get_or s.on p 0))) → Witness t C (standing s.on) s.on
witness_end f e clear = record { part = λ k p u. u; whole = fits_whole f e; keeps = f.keeps; clear = clear }

-- a witness for a smaller part, and of another kind
pub witness_map : {t : Table} {B C : (ℕ → Bool) → Type 0} {on on' : ℕ → ℕ → Bool} {sets : List ℕ} → Part on on' → ((x : ℕ → Bool) → B x → C x) → Witness t B on' sets → Witness t C on sets
witness_map part f w = record { part = λ k p u. w.part k p (part k p u); whole = w.whole; keeps = w.keeps; clear = λ p. f _ (w.clear p) }
