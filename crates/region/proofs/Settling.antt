-- Laws of settled regions: none, one after another, the same region otherwise said, a region refuted or cut; and the steps of the search for the
-- first placement. Assumes nothing.
use mathlib.Core.Path.{◌≡◌, refl, sym, ap, subst, fun_ext}
use mathlib.Core.Logic.{◌⊎◌, inl, inr, ⊎_elim}
use mathlib.Core.Bool.{Bool, true, false, true≢false, false≢true}
use mathlib.Core.List.{List}
use Prim.Native.Nat.{ℕ, ◌+◌, ◌<◌}
use native.Mathlib.Decide.{ℕ_discrete, dec_lt}
use native.Mathlib.Omega.{arith}
use lib.Dec.{T}
use lib.ListN.{get_or}
use Rattle.mask.specs.Mask.{has}
use Rattle.table.specs.declared.Table.{Table}
use Rattle.table.specs.Sound.{Sound}
use Rattle.schedule.specs.Periodic.{LateSet}
use Rattle.rules.specs.Placement.{placed, and_task, Part}
use Rattle.rules.specs.Rules.{Keeps}
use Rattle.rules.specs.Sets.{standing}
use Rattle.timing.specs.Timing.{tasks_in}
use Rattle.judge.specs.Judge.{PlacementOf}
use Rattle.timing.proofs.Limits.{valid_tasks, constrained_tasks}
use Rattle.nogoods.specs.Nogoods.{Covered, Nogoods, full, Extended, Clear}
use Rattle.partial.specs.Partial.{Partial}
use Rattle.goal.specs.Order.{EarlierThan}
use Rattle.region.specs.Region.{Within, Refuted, Met, Witness, Uncovered, Marked, Settled}
use Rattle.nogoods.proofs.Growth.{extended_refl, extended_trans, extended_map, full_stays, covered_grows, covered_back}
use Rattle.nogoods.proofs.Verdicts.{clear_uncovered}
use Rattle.rules.proofs.Placed.{placed_at, placed_is}
use Rattle.region.proofs.Filling.{whole_placement}
use Rattle.region.proofs.Refuting.{and_there, and_part, and_within, met_map}

-- the same placement, in a larger region
uncovered_map : {t : Table} {P Q : List ℕ → Type 0} {list : List ℕ} {count : ℕ} → ((q : List ℕ) → PlacementOf t q → P q → Q q) → Uncovered t P list count → Uncovered t Q list count
uncovered_map f u = record {
  placement = u.placement;
  whole = u.whole;
  inside = f u.placement u.whole u.inside;
  keeps = u.keeps;
  holds_none = u.holds_none;
}

-- ---- settled regions

module _ {t : Table} where
  pub settled_nothing : {list : List ℕ} {count : ℕ} {cut : Bool} → Nogoods (tasks_in t) list count → Settled t (λ q. ⊥) list count cut list count cut
  settled_nothing {list} {count} {cut} w = record { refuted = λ q _ none. absurd none; list = extended_refl w; mark = go cut }
    where
      go : (cut : Bool) → Marked t (λ q. ⊥) cut list count cut
      go false = (refl, λ q _ none. absurd none)
      go true = inl refl

  pub settled_region : {P Q : List ℕ → Type 0} {a b : List ℕ} {i j : ℕ} {x y : Bool}
      → ((q : List ℕ) → PlacementOf t q → P q → Q q) → ((q : List ℕ) → PlacementOf t q → Q q → P q) → Settled t P a i x b j y → Settled t Q a i x b j y
  settled_region {P} {Q} {b = b} {j = j} {x} {y} f g s = record {
    refuted = λ q w u. s.refuted q w (g q w u);
    list = extended_map (λ c. met_map f) s.list;
    mark = go y s.mark;
  }
    where
      go : (y : Bool) → Marked t P x b j y → Marked t Q x b j y
      go false m = (m.0, λ q w u. m.1 q w (g q w u))
      go true (inl e) = inl e
      go true (inr m) = inr (m.0, uncovered_map f m.1)

  -- one region after another; where the list was full after the first, it stayed as it was
  pub settled_then : {P Q : List ℕ → Type 0} {a b c : List ℕ} {i j k : ℕ} {x y z : Bool}
      → Settled t P a i x b j y → Settled t Q b j y c k z → Settled t (λ q. P q ⊎ Q q) a i x c k z
  settled_then {P} {Q} {a} {b} {c} {i} {j} {k} {x} {y} {z} s r = record {
    refuted = λ q w. ⊎_elim (s.refuted q w) (r.refuted q w);
    list = extended_trans (extended_map (λ n. met_map (λ q w. inl)) s.list) (extended_map (λ n. met_map (λ q w. inr)) r.list);
    mark = go y z s.mark r.mark;
  }
    where
      go : (y z : Bool) → Marked t P x b j y → Marked t Q y c k z → Marked t (λ q. P q ⊎ Q q) x c k z
      go false false (e, m) (_, n) =
          (e, λ q w. ⊎_elim (λ u v. let h = m q w u v in (h.0, covered_grows r.list.grows h.1)) (n q w))
      go true false m (e, n) = absurd (true≢false e)
      go y true m (inr (e, u)) = inr (e, uncovered_map (λ q w. inr) u)
      go false true m (inl e) = absurd (false≢true e)
      go true true (inl e) (inl _) = inl e
      go true true (inr (e, u)) (inl _) =
          let same = full_stays r.list e in
          inr (
            rw (r.list.grows.long, ← same) e,
            record {
              placement = u.placement;
              whole = u.whole;
              inside = inl u.inside;
              keeps = u.keeps;
              holds_none = λ p v. u.holds_none p (covered_back same r.list.grows v);
            },
          )

  -- a region all of whose placements hold a listed conflict
  pub settled_covered : {P : List ℕ → Type 0} {a b : List ℕ} {i j : ℕ}
      → Refuted t (LateSet (tasks_in t)) P → Extended (Met t P) (tasks_in t) a i b j → Refuted t (Covered b j) P → Settled t P a i false b j false
  settled_covered late w covered = record { refuted = late; list = w; mark = (refl, covered) }

  -- a region that is passed over once the mark is cut
  pub settled_passed : {P : List ℕ → Type 0} {b : List ℕ} {j : ℕ}
      → Refuted t (LateSet (tasks_in t)) P → Nogoods (tasks_in t) b j → Settled t P b j true b j true
  settled_passed late w = record { refuted = late; list = extended_refl w; mark = inl refl }

  -- a region with a placement that keeps the rules and holds none of a full list
  pub settled_cut : {on : ℕ → ℕ → Bool} {sets a b : List ℕ} {i j : ℕ}
      → Sound t → Refuted t (LateSet (tasks_in t)) (Within on) → Extended (Met t (Within on)) (tasks_in t) a i b j
      → Witness t (Clear (tasks_in t) true b j) on sets → Settled t (Within on) a i false b j true
  settled_cut {on} {sets} {b = b} {j = j} sound late w v = record {
    refuted = late;
    list = w;
    mark = inr (
      no_room (v.clear found.0) (subst (LateSet (tasks_in t)) (same found.0) found.1),
      record {
        placement = q;
        whole = l.1;
        inside = inside;
        keeps = keeps;
        holds_none = λ p u. none p (v.clear p) (subst (Covered b j) (same p) u);
      },
    );
  }
    where
      l : (q : List ℕ) × PlacementOf t q × ((k p : ℕ) → placed q k p ≡ standing sets k p)
      l = let r = whole_placement sound v.whole in (r.0, r.1, λ k p. ap (λ (f : ℕ → ℕ → Bool). f k p) r.2)

      q : List ℕ
      q = l.0

      same : (p : ℕ) → (λ k. placed q k p) ≡ has (get_or sets p 0)
      same p = fun_ext (λ k. l.2 k p)

      inside : Within on q
      inside k p u = subst T (sym (l.2 k p)) (v.part k p u)

      keeps : Keeps t (placed q)
      keeps = subst (Keeps t) (sym (fun_ext (λ k. fun_ext (l.2 k)))) v.keeps

      found : (p : ℕ) × LateSet (tasks_in t) (λ k. placed q k p)
      found = late q l.1 inside keeps

      no_room : {x : ℕ → Bool} → Clear (tasks_in t) true b j x → LateSet (tasks_in t) x → T (full b j)
      no_room (inl f) u = absurd (f u)
      no_room (inr f) u = f.0

      none : (p : ℕ) → Clear (tasks_in t) true b j (has (get_or sets p 0)) → Covered b j (has (get_or sets p 0)) → ⊥
      none p (inl f) = clear_uncovered (valid_tasks sound) (constrained_tasks sound) w.nogoods f
      none p (inr f) = f.1

-- ---- the search for the first placement: task k is the next

-- the placements with the task on p too are those whose byte says so
narrow : (on : ℕ → ℕ → Bool) (k p : ℕ) (e : List ℕ) → Within (and_task on k p) e → Within on e × (get_or e k 0 ≡ p)
narrow on k p e w = (λ j r u. w j r (and_part on k p j r u), (placed_is e k p (w k p (and_there on k p))).1)

widen : {t : Table} {e : List ℕ} (on : ℕ → ℕ → Bool) (k p : ℕ) → PlacementOf t e → k < t.tasks.count → Within on e → get_or e k 0 ≡ p → Within (and_task on k p) e
widen {e = e} on k p v l w q = and_within on k p (placed e) w (subst (λ (r : ℕ). T (placed e k r)) q (placed_at e k (omega (arith, v.long))))

module _ {t : Table} (on : ℕ → ℕ → Bool) {k : ℕ} where
  -- no processor of it was tried
  pub first_start : {a b : List ℕ} {i j : ℕ} {x y : Bool} → Settled t (λ q. ⊥) a i x b j y → Settled t (λ e. Within on e × (get_or e k 0 < 0)) a i x b j y
  first_start = settled_region (λ q w none. absurd none) (λ e w u. omega (arith, u.1))

  -- the next processor is passed over
  pub first_pass : {p : ℕ} {a b c : List ℕ} {i j l : ℕ} {x y z : Bool}
      → Settled t (λ e. Within on e × (get_or e k 0 < p)) a i x b j y → Settled t (Within (and_task on k p)) b j y c l z
      → k < t.tasks.count → Settled t (λ e. Within on e × (get_or e k 0 < p + 1)) a i x c l z
  first_pass {p} s r task = settled_region forth back (settled_then s r)
    where
      forth : (e : List ℕ) → PlacementOf t e → (Within on e × (get_or e k 0 < p)) ⊎ Within (and_task on k p) e → Within on e × (get_or e k 0 < p + 1)
      forth e v (inl u) = (u.0, omega (arith, u.1))
      forth e v (inr w) = let n = narrow on k p e w in (n.0, omega (arith, n.1))

      back : (e : List ℕ) → PlacementOf t e → Within on e × (get_or e k 0 < p + 1) → (Within on e × (get_or e k 0 < p)) ⊎ Within (and_task on k p) e
      back e v (w, u) = go (dec_lt (get_or e k 0) p)
        where
          go : Dec (get_or e k 0 < p) → (Within on e × (get_or e k 0 < p)) ⊎ Within (and_task on k p) e
          go (yes d) = inl (w, d)
          go (no d) = inr (widen on k p v task w (omega arith))

  -- it is taken on p: what is earlier has it on a lower processor, or on p and is earlier in the rest
  pub first_step : {p : ℕ} {sets a b c : List ℕ} {i j l : ℕ} {x y z : Bool}
      → ((j : ℕ) → j < k → (r : ℕ) × T (on j r)) → Part (and_task on k p) (standing sets) → Partial t sets
      → Settled t (λ e. Within on e × (get_or e k 0 < p)) a i x b j y → Settled t (λ e. Within (and_task on k p) e × EarlierThan (standing sets) e) b j y c l z
      → k < t.tasks.count → Settled t (λ e. Within on e × EarlierThan (standing sets) e) a i x c l z
  first_step {p} {sets} Placed-below part all s r task = settled_region forth back (settled_then s r)
    where
      here : T (standing sets k p)
      here = part k p (and_there on k p)

      -- a task below k stands where its byte says
      below : (e : List ℕ) → Within on e → (j : ℕ) → j < k → T (standing sets j (get_or e j 0))
      below e w j l =
          let r = Placed-below j l in
          rw (placed_is e j r.0 (w j r.0 r.1)).1 (part j r.0 (and_part on k p j r.0 r.1))

      forth : (e : List ℕ) → PlacementOf t e → (Within on e × (get_or e k 0 < p)) ⊎ (Within (and_task on k p) e × EarlierThan (standing sets) e) → Within on e × EarlierThan (standing sets) e
      forth e v (inl (w, l)) = (w, record { task = k; same = below e w; processor = p; stands = here; lower = l })
      forth e v (inr (w, f)) = ((narrow on k p e w).0, f)

      back : (e : List ℕ) → PlacementOf t e → Within on e × EarlierThan (standing sets) e → (Within on e × (get_or e k 0 < p)) ⊎ (Within (and_task on k p) e × EarlierThan (standing sets) e)
      back e v (w, f) = go (dec_lt f.task k) (ℕ_discrete f.task k)
        where
          go : Dec (f.task < k) → Dec (f.task ≡ k) → (Within on e × (get_or e k 0 < p)) ⊎ (Within (and_task on k p) e × EarlierThan (standing sets) e)
          go (yes l) _ = absurd (omega (arith, f.lower, all.once f.task (get_or e f.task 0) f.processor (below e w f.task l) f.stands))
          go (no _) (yes d) = inl (w, omega (arith, all.once k f.processor p (rw d at f.stands) here, rw d at f.lower))
          go (no l) (no d) = inr (widen on k p v task w (all.once k (get_or e k 0) p (f.same k (omega arith)) here), f)

-- all tasks are placed: of the placements that have them there, none is earlier
pub first_end : {t : Table} (sets : List ℕ) {a b : List ℕ} {i j : ℕ} {x y : Bool}
    → Settled t (λ q. ⊥) a i x b j y → Settled t (λ e. Within (standing sets) e × EarlierThan (standing sets) e) a i x b j y
first_end sets = settled_region (λ q w none. absurd none) (λ e w (u, f). omega (arith, f.lower, (placed_is e f.task f.processor (u f.task f.processor f.stands)).1))
