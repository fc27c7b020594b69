-- From what the search has settled to what 01 asks of its answer. Assumes nothing.
use mathlib.Core.Path.{◌≡◌, sym, subst, ◌∙◌}
use mathlib.Core.Logic.{⊎_elim}
use mathlib.Core.Bool.{Bool, true, false, not}
use mathlib.Core.List.{List}
use Prim.Native.Nat.{ℕ, ◌+◌, ◌*◌, ◌<◌}
use native.Mathlib.Omega.{arith}
use lib.Dec.{T, ltb→lt}
use lib.ListN.{length, get_or}
use Rattle.table.specs.declared.Table.{Table}
use Rattle.table.specs.Sound.{Sound}
use Rattle.schedule.specs.Periodic.{LateSet}
use Rattle.rules.specs.Placement.{placed}
use Rattle.rules.specs.Rules.{Keeps}
use Rattle.rules.specs.Sets.{standing}
use Rattle.conflict.specs.Conflict.{Minimal}
use Rattle.timing.specs.Timing.{tasks_in}
use Rattle.judge.specs.Judge.{PlacementOf}
use Rattle.judge.specs.Good.{Good}
use Rattle.answer.specs.Answer.{mask_at}
use Rattle.goal.specs.Order.{EarlierThan, Earlier}
use Rattle.goal.specs.Goal.{HoldsListed, mark_of, Listed}
use Rattle.goal.proofs.First.{Before}
use Rattle.goal.proofs.Mark.{on_one_lem, mark_complete, mark_cut_lem, met_intro}
use Rattle.nogoods.specs.Nogoods.{masks_in, Covered}
use Rattle.nogoods.proofs.Masks.{masks_long, masks_get}
use Rattle.region.specs.Region.{Witness, Marked, Settled}
use Rattle.first.specs.First.{InTime}

-- a good placement, as the list of its processors
pub record AsList (t : Table) (sets q : List ℕ) : Type 0 where
  pub placement : PlacementOf t q
  pub same : placed q ≡ standing sets

module _ {t : Table} {on : ℕ → ℕ → Bool} {sets q : List ℕ} (w : Witness t (InTime t) on sets) (a : AsList t sets q) where
  pub witness_good : Good t q
  witness_good = record {
    placement = a.placement;
    keeps = subst (Keeps t) (sym a.same) w.keeps;
    in_time = λ p l. w.clear p (subst (λ (f : ℕ → ℕ → Bool). LateSet (tasks_in t) (λ k. f k p)) a.same l);
  }

-- earlier than the list is earlier than the sets
module _ {t : Table} {sets q : List ℕ} (a : AsList t sets q) {e : List ℕ} where
  pub earlier_sets : Earlier e q → EarlierThan (standing sets) e
  earlier_sets x = subst (λ (f : ℕ → ℕ → Bool). EarlierThan f e) a.same x.than

  pub sets_earlier : EarlierThan (standing sets) e → Earlier e q
  sets_earlier x = record { than = subst (λ (f : ℕ → ℕ → Bool). EarlierThan f e) (sym a.same) x }

-- the list of a settled region that is what 01 calls earlier
module _ {t : Table} (h : Sound t) {P : List ℕ → Type 0} (forth : (e : List ℕ) → PlacementOf t e → P e → Before t e) (back : (e : List ℕ) → PlacementOf t e → Before t e → P e)
    {count : ℕ} {old new : List ℕ} {cut : Bool} (w : Settled t P old 0 false new count cut) where
  abbrev cs : List ℕ
  cs = masks_in new count

  get : (j : ℕ) → j < length cs → (j < count) × (get_or cs j 0 ≡ mask_at new j)
  get j l = let i : j < count = rw (masks_long new count) at l in (i, masks_get new count j i)

  pub settled_listed : Listed t cs
  settled_listed = record {
    different = λ i j a b e. w.list.nogoods.different i j (get i a).0 (get j b).0 (sym (get i a).1 ∙ e ∙ (get j b).1);
    minimal = λ j l. subst (Minimal (tasks_in t)) (sym (get j l).1) (w.list.nogoods.minimal j (get j l).0);
    met = λ j l. let m = w.list.grows.added j (omega arith) (get j l).0 in
        rw (get j l).1 (met_intro h (mask_at new j) m.whole (forth m.placement m.whole m.inside) m.resides (on_one_lem h m.whole (mask_at new j) m.processor m.holds));
  }

  holds_covered : (e : List ℕ) → HoldsListed t cs e → (p : ℕ) × Covered new count (λ k. placed e k p)
  holds_covered e x = (x.2.0, record { number = x.0; listed = (get x.0 x.1).0; inside = λ k u. x.2.2 k (rw (get x.0 x.1).1 u) })

  covered_holds : {e : List ℕ} → PlacementOf t e → (p : ℕ) → Covered new count (λ k. placed e k p) → HoldsListed t cs e
  covered_holds v p c = (c.number, rw (masks_long new count) c.listed, on_one_lem h v (get_or cs c.number 0) p (λ k u. c.inside k (rw (masks_get new count c.number c.listed) at u)))

  marked : (b : Bool) → Marked t P false new count b → mark_of t cs ≡ not b
  marked false m = mark_complete h cs (λ e v before keeps. let s = m.1 e v (back e v before) keeps in covered_holds v s.0 s.1)
  marked true m = ⊎_elim (λ e. absurd (subst (λ (x : Bool). T (not x)) e tt))
      (λ u. mark_cut_lem h cs u.1.whole (forth u.1.placement u.1.whole u.1.inside) u.1.keeps (λ x. let s = holds_covered u.1.placement x in u.1.holds_none s.0 s.1)) m

  pub settled_mark : mark_of t cs ≡ not cut
  settled_mark = marked cut w.mark

  -- where the list is cut, one more conflict has no room
  pub settled_full : mark_of t cs ≡ false → length old < 6 * length cs + 9
  settled_full e = omega (arith, masks_long new count, w.list.grows.long, go cut w.mark (subst (λ (b : Bool). T (not b)) (sym (sym settled_mark ∙ e)) tt))
    where
      go : (b : Bool) → Marked t P false new count b → T (not (not b)) → length new < 6 * count + 9
      go true m u = ⊎_elim (λ f. absurd (subst (λ (x : Bool). T (not x)) f tt)) (λ x. ltb→lt (length new) (6 * count + 9) x.0) m
      go false m u = absurd u
