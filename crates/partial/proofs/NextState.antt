-- The state with one task more fits the table, and other laws of states. Assumes nothing.
use mathlib.Core.Path.{◌≡◌, refl, sym, subst, fun_ext, ◌∙◌}
use mathlib.Core.Logic.{◌≢◌, ◌⊎◌, inl, inr}
use mathlib.Core.Bool.{Bool, ◌&&◌, ◌||◌, and-false, and-true}
use mathlib.Core.List.{List}
use Rattle.std.proofs.Common.{Option, Some, None}
use Prim.Native.Nat.{ℕ, ◌+◌, ◌-◌, ◌*◌, ◌/◌, ◌≤◌, ◌<◌}
use native.Mathlib.Omega.{arith}
use native.Mathlib.Decide.{ℕ_discrete}
use borrow.Author.Tests.{eq-eqb, ne_eqb}
use lib.Dec.{T, eqb}
use lib.ListN.{length, get_or, set, length-set}
use lib.Seq.{get_or-set_same, get_or-set_other}
use Rattle.mask.specs.Mask.{has, insert_of, remove_of}
use Rattle.mask.proofs.Laws.{has_insert, has_remove, remove_not, remove_subset}
use Rattle.table.specs.declared.Table.{Table}
use Rattle.rules.specs.Placement.{and_task}
use Rattle.rules.specs.Rules.{memory_on, load_on, Keeps}
use Rattle.rules.specs.Sets.{standing}
use Rattle.rules.proofs.Step.{step_memory, step_memory_other, step_load, step_load_other}
use Rattle.partial.specs.declared.State.{State}
use Rattle.partial.specs.declared.Sizes.{Sizes}
use Rattle.partial.specs.Partial.{Lent, Partial, Fits, site_of, Stepped, StepOf}
use Rattle.partial.specs.Tests.{trial_of, Tried, TrialOf, with_task, Enough, step_after}
use Rattle.partial.proofs.Deciding.{load_at, traffic_with, keeps_memory, keeps_load, keeps_carries, trial_right}
use Rattle.partial.proofs.OneMore.{stood, stays, stands, work}
use Rattle.rows.specs.declared.Rows.{Rows}
use Rattle.rows.specs.declared.Messages.{Messages}

-- a set of tasks with one more
pub standing_insert : (sets : List ℕ) (k p : ℕ) → p < length sets → standing (set sets p (insert_of (get_or sets p 0) k)) ≡ and_task (standing sets) k p
standing_insert sets k p low = fun_ext (λ i. fun_ext (λ r. go i r (ℕ_discrete r p)))
  where
    put : ℕ
    put = insert_of (get_or sets p 0) k

    go : (i r : ℕ) → Dec (r ≡ p) → has (get_or (set sets p put) r 0) i ≡ (eqb i k && eqb r p || has (get_or sets r 0) i)
    go i r (yes e) = rw (e, get_or-set_same sets p put 0 low, has_insert (get_or sets p 0) k i, eq-eqb p p refl, and-true (eqb i k)) refl
    go i r (no e) = rw (get_or-set_other sets p r put 0 e, ne_eqb r p e, and-false (eqb i k)) refl

-- of what each of m processors has left, x is taken at p
left_less : (room : List ℕ) (m p x : ℕ) (used with-x limit : ℕ → ℕ) → p < length room → x ≤ get_or room p 0 → with-x p ≡ used p + x → ((r : ℕ) → r ≢ p → with-x r ≡ used r)
    → ((r : ℕ) → r < m → get_or room r 0 + used r ≡ limit r) → (r : ℕ) → r < m → get_or (set room p (get_or room p 0 - x)) r 0 + with-x r ≡ limit r
left_less room m p x used with-x limit low fit here other left r l = go (ℕ_discrete r p)
  where
    go : Dec (r ≡ p) → get_or (set room p (get_or room p 0 - x)) r 0 + with-x r ≡ limit r
    go (yes e) = rw e (omega (arith, get_or-set_same room p (get_or room p 0 - x) 0 low, here, left p (omega arith)))
    go (no e) = omega (arith, get_or-set_other room p r (get_or room p 0 - x) 0 e, other r e, left r l)

module _ {t : Table} {s : State} (f : Fits t s) (k p : ℕ) (free : T (has s.left k)) (low : p < t.processors.count) where
  module _ (r : State) (long : length r.on ≡ 8) (e : standing r.on ≡ and_task (standing s.on) k p) where
    was : (i q : ℕ) → T (standing r.on i q) → ((i ≡ k) × (q ≡ p)) ⊎ T (standing s.on i q)
    was i q u = stood (standing s.on) k p i q (subst (λ (on : ℕ → ℕ → Bool). T (on i q)) e u)

    partial_more : Partial t r.on
    partial_more = record {
      long = long;
      task = λ i q u. at_task i q (was i q u);
      processor = λ i q u. at_processor i q (was i q u);
      once = λ i q o u v. at_once i q o (was i q u) (was i o v);
    }
      where
        new : (q : ℕ) → T (standing s.on k q) → ⊥
        new = (f.open_task k free).1

        at_task : (i q : ℕ) → ((i ≡ k) × (q ≡ p)) ⊎ T (standing s.on i q) → i < t.tasks.count
        at_task i q (inl x) = omega (arith, x.0, (f.open_task k free).0)
        at_task i q (inr u) = f.partial.task i q u

        at_processor : (i q : ℕ) → ((i ≡ k) × (q ≡ p)) ⊎ T (standing s.on i q) → q < t.processors.count
        at_processor i q (inl x) = omega (arith, x.1)
        at_processor i q (inr u) = f.partial.processor i q u

        at_once : (i q o : ℕ) → ((i ≡ k) × (q ≡ p)) ⊎ T (standing s.on i q) → ((i ≡ k) × (o ≡ p)) ⊎ T (standing s.on i o) → q ≡ o
        at_once i q o (inl x) (inl y) = x.1 ∙ sym y.1
        at_once i q o (inl x) (inr v) = absurd (new o (rw x.0 at v))
        at_once i q o (inr u) (inl y) = absurd (new q (rw y.0 at u))
        at_once i q o (inr u) (inr v) = f.partial.once i q o u v

    module _ (l : r.left ≡ remove_of s.left k) where
      open_less : (j : ℕ) → T (has r.left j) → (j < t.tasks.count) × ((q : ℕ) → T (standing r.on j q) → ⊥)
      open_less j u = ((f.open_task j old).0, λ q v. go q (was j q v))
        where
          removed : T (has (remove_of s.left k) j)
          removed = rw l at u

          old : T (has s.left j)
          old = remove_subset s.left k j removed

          go : (q : ℕ) → ((j ≡ k) × (q ≡ p)) ⊎ T (standing s.on j q) → ⊥
          go q (inl x) = remove_not s.left k (rw x.0 at removed)
          go q (inr v) = (f.open_task j old).1 q v

      placed_more : (j : ℕ) → j < t.tasks.count → (T (has r.left j) → ⊥) → (q : ℕ) × T (standing r.on j q)
      placed_more j lj out = go (ℕ_discrete j k)
        where
          now : (q : ℕ) → T (and_task (standing s.on) k p j q) → (q : ℕ) × T (standing r.on j q)
          now q u = (q, subst (λ (on : ℕ → ℕ → Bool). T (on j q)) (sym e) u)

          go : Dec (j ≡ k) → (q : ℕ) × T (standing r.on j q)
          go (yes x) = now p (rw x (stands (standing s.on) k p))
          go (no x) =
              let at = f.placed_task j lj (λ u. out (rw (l, has_remove s.left k j, ne_eqb j k x) u)) in
              now at.0 (stays (standing s.on) k p j at.0 at.1)

  -- the state with the task
  pub stepped : t.processors.count ≤ 8 → {memory load added : ℕ} → memory ≡ get_or t.tasks.memory k 0 → load ≡ work t k
      → Enough s p memory load added → Tried t s k p added → Stepped t s k p (with_task s k p memory load added)
  stepped few {memory} {load} {added} is-memory is-load fit w = record {
    fits = record {
      partial = partial_more r long e;
      keeps = subst (Keeps t) (sym e) w.keeps;
      open_task = open_less r long e refl;
      placed_task = placed_more r long e refl;
      memory_long = length-set s.memory p _ ∙ f.memory_long;
      memory = left_less s.memory t.processors.count p memory (memory_on t (standing s.on)) (memory_on t (standing r.on)) (λ q. get_or t.processors.memory q 0)
          (omega (arith, f.memory_long)) fit.enough_memory
          (rw (e, is-memory) (step_memory t (standing s.on) k p task (new p))) (λ q d. rw e (step_memory_other t (standing s.on) k p d)) f.memory;
      load_long = length-set s.load p _ ∙ f.load_long;
      load = left_less s.load t.processors.count p load (load_on t (standing s.on)) (load_on t (standing r.on)) (λ q. get_or t.processors.limit q 0 * t.hyperperiod / 1000)
          (omega (arith, f.load_long)) fit.enough_load
          (rw (e, is-load) (step_load t (standing s.on) k p task (new p))) (λ q d. rw e (step_load_other t (standing s.on) k p d)) f.load;
      traffic = rw e (omega (arith, f.traffic, fit.enough_traffic, w.traffic));
    };
    on = e;
    left = refl;
  }
    where
      r : State
      r = with_task s k p memory load added

      task : k < t.tasks.count
      task = (f.open_task k free).0

      new : (q : ℕ) → T (standing s.on k q) → ⊥
      new = (f.open_task k free).1

      long : length r.on ≡ 8
      long = length-set s.on p _ ∙ f.partial.long

      e : standing r.on ≡ and_task (standing s.on) k p
      e = standing_insert s.on k p (omega (arith, f.partial.long))

-- ---- from the answer of a trial, on lent rows

module _ {t : Table} {sizes : Sizes} {rows : Rows} {links : Messages} {s : State}
    (e : Lent t sizes rows links) (f : Fits t s)
    (k p : ℕ) (free : T (has s.left k)) (low : p < sizes.processors) where
  enough : {added : ℕ} → Tried t s k p added → Enough s p (get_or rows.memory k 0) (get_or rows.load k 0) added
  enough w = record {
    enough_memory = keeps_memory e f k p free low w.keeps;
    enough_load = keeps_load e f k p free low w.keeps;
    enough_traffic = omega (arith, traffic_with e f k p free low, keeps_carries e f k p free low w.keeps, w.traffic);
  }

  module _ {r : Option ℕ} (i : r ≡ trial_of rows links sizes (site_of s p) k p) where
    right : TrialOf t s k p r
    right = rw i (trial_right e f k p free low)

    pub trial_enough : {added : ℕ} → r ≡ Some added → Enough s p (get_or rows.memory k 0) (get_or rows.load k 0) added
    trial_enough {added} o = enough (subst (TrialOf t s k p) o right)

    pub trial_step : StepOf t s k p (step_after s k p (get_or rows.memory k 0) (get_or rows.load k 0) r)
    trial_step = go r right
      where
        go : (x : Option ℕ) → TrialOf t s k p x → StepOf t s k p (step_after s k p (get_or rows.memory k 0) (get_or rows.load k 0) x)
        go None w = w
        go (Some added) w = stepped f k p free (omega (arith, e.processors)) e.sound.processors.most (rw e.same_memory refl) (load_at e f k p free low) (enough w) w
