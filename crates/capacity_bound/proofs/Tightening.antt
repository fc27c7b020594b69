-- Bounds on what each processor can take, made tighter one after the other, and what their sum says. Assumes nothing.
use mathlib.Core.Path.{◌≡◌, sym, ap, subst}
use mathlib.Core.Logic.{◌⊎◌, ⊎_elim}
use mathlib.Core.Bool.{Bool, true, false}
use mathlib.Core.List.{List}
use Prim.Native.Nat.{ℕ, ◌≤◌, ◌<◌}
use native.Mathlib.Decide.{ℕ_discrete}
use native.Mathlib.Omega.{arith}
use borrow.Author.Tests.{ltb-true}
use lib.Dec.{ltb}
use lib.ListN.{length, get_or, set}
use lib.Seq.{get_or-set_same, get_or-set_other}
use Rattle.finite.specs.Finite.{sum_to}
use Rattle.finite.proofs.Stored.{set_all}
use Rattle.finite.proofs.Sum.{sum_le}
use Rattle.mask.specs.Mask.{has}
use Rattle.table.specs.declared.Table.{Table}
use Rattle.table.specs.Sound.{Sound}
use Rattle.schedule.specs.Arrays.{tasks_of}
use Rattle.rules.specs.Sets.{standing}
use Rattle.timing.specs.Timing.{tasks_in}
use Rattle.rows.specs.Rows.{loads_of, exclusions_of}
use Rattle.nogoods.specs.declared.Mode.{Mode}
use Rattle.nogoods.specs.Nogoods.{Nogoods, Extended, Bad}
use Rattle.nogoods.proofs.Growth.{extended_refl, extended_trans, extended_map}
use Rattle.nogoods.proofs.Verdicts.{bad_grows}
use Rattle.partial.specs.declared.State.{State}
use Rattle.partial.specs.declared.Sizes.{Sizes}
use Rattle.partial.specs.Partial.{Lent, Fits}
use Rattle.region.specs.Region.{Within, Met}
use Rattle.region.specs.Lends.{Lends}
use Rattle.region.proofs.Lending.{lent_tasks}
use Rattle.region.specs.Begins.{Eligible}
use Rattle.candidates.specs.Candidates.{Fair}
use Rattle.candidates.proofs.Meeting.{met_among}
use Rattle.candidates.proofs.Choosing.{choice_map, eligible_below}
use Rattle.candidates.proofs.Fairness.{refuted_fair}
use Rattle.knapsack.specs.declared.Pack.{Pack}
use Rattle.knapsack.specs.declared.Packed.{Packed}
use Rattle.knapsack.specs.Knapsack.{weight_of, Takes, PackedAs}
use Rattle.knapsack.proofs.Taking.{takes_map}
use Rattle.knapsack.specs.declared.Weighting.{Weighting}
use Rattle.bound_cache.specs.declared.Key.{Key}
use Rattle.bound_cache.specs.BoundCache.{weights_at, Capped, number_of}
use Rattle.capacity_bound.specs.declared.Tightened.{Tightened}
use Rattle.capacity_bound.specs.Bound.{BoundedAs}
use Rattle.subgradient.specs.Subgradient.{heaviest}
use Rattle.capacity_bound.specs.CapacityBound.{packing_fuel, Weights, TopAs, Covers, Joins, Bounds, Tops, Weighable, Topped, TightAs}
use Rattle.capacity_bound.proofs.OpenTasks.{open_on, fair_joins, open_sum_lem}
use Rattle.schedule.specs.declared.Timing.{Timing}
use Rattle.rows.specs.declared.Rows.{Rows}
use Rattle.rows.specs.declared.Messages.{Messages}

-- fewer kinds of sets
joins_map : {t : Table} {s : State} {B C : (ℕ → Bool) → Type 0} {sets : List ℕ} {p x : ℕ} → ((y : ℕ → Bool) → B y → C y) → Joins t s C sets p x → Joins t s B sets p x
joins_map f j = record { inside = j.inside; takes = takes_map f j.takes }

-- as much memory and load, or more
takes_more : {n : ℕ} {memory exclusions loads : List ℕ} {B : (ℕ → Bool) → Type 0} {on on' space space' spare spare' x : ℕ} → on ≡ on' → space ≤ space' → spare ≤ spare'
    → Takes n memory exclusions loads B on space spare x → Takes n memory exclusions loads B on' space' spare' x
takes_more {n} {memory} {exclusions} {loads} {B} {on} {on'} {space' = space'} {spare' = spare'} {x = x} e a b w = subst (λ (y : ℕ). Takes n memory exclusions loads B y space' spare' x) e more
  where
    more : Takes n memory exclusions loads B on space' spare' x
    more = record { enough_memory = omega (arith, w.enough_memory); enough_load = omega (arith, w.enough_load); apart = w.apart; clear = w.clear }

-- what can join the tasks on p can join those on a processor that covers p
joins_cover : {t : Table} {s : State} {B : (ℕ → Bool) → Type 0} {sets : List ℕ} {p r x : ℕ} → Covers s sets r p → Joins t s B sets p x → Joins t s B sets r x
joins_cover c j = record { inside = λ k u. rw (← c.same_set) (j.inside k u); takes = takes_more c.same_on c.memory c.load j.takes }

-- the first bounds
pub tops_start : {t : Table} {s : State} {B : (ℕ → Bool) → Type 0} {sizes : Sizes} {rows : Rows} {links : Messages} {weighting : Weighting} {sets tops : List ℕ} → Lent t sizes rows links → Weights rows weighting → Fits t s
    → ((p : ℕ) → p < t.processors.count → Eligible t s p (get_or sets p 0)) → ((p : ℕ) → get_or tops p 0 ≤ heaviest)
    → ((p : ℕ) → p < sizes.processors → TopAs weighting (get_or sets p 0) (get_or s.memory p 0) (get_or s.load p 0) (get_or tops p 0)) → Tops t s B weighting.weights sets tops
tops_start {t} l v f el small tops = record {
  small = small;
  bounds = λ p low x j. (tops p (omega (arith, l.processors))).bounds t.tasks.count (eligible_below f (el p low)) x j.inside
      (λ e. rw (v (λ o. absurd (omega (arith, ap number_of e, ap number_of o))), e, l.same_loads) j.takes.enough_load)
      (λ e. rw (v (λ o. absurd (omega (arith, ap number_of e, ap number_of o))), e, l.same_memory) j.takes.enough_memory);
}

-- what a bound for p is worked out from
abbrev key_of : State → List ℕ → ℕ → ℕ → Key
key_of s sets p row = record { on = get_or s.on p 0; candidates = get_or sets p 0; row = row; space = get_or s.memory p 0; spare = get_or s.load p 0 }

-- what the packing begins with for p
abbrev pack_of : State → List ℕ → List ℕ → ℕ → ℕ → Pack
pack_of s sets tops p reach = record {
  on = get_or s.on p 0;
  candidates = get_or sets p 0;
  at = 0;
  space = get_or s.memory p 0;
  spare = get_or s.load p 0;
  weight = 0;
  reach = reach;
  stop = get_or tops p 0;
  best = 0;
  best_set = get_or s.on p 0;
  fuel = packing_fuel;
}

module _ {t : Table} {s : State} {mode : Mode} {weights sets tops list : List ℕ} {count : ℕ} (o : Tops t s (Bad (tasks_in t) mode.listing list count) weights sets tops) {p : ℕ} (low : p < t.processors.count) where
  -- the bound of a processor that covers p
  pub tight_like : {r most set calls : ℕ} → Nogoods (tasks_in t) list count → r < t.processors.count → Covers s sets r p
      → (most ≤ get_or tops p 0) × (most ≤ get_or tops r 0) × ((most ≡ get_or tops p 0) ⊎ (most ≡ get_or tops r 0)) → TightAs t mode s weights sets tops p list count list (record { most = most; set = set; count = count; calls = calls })
  tight_like w i c m = record {
    list = extended_refl w;
    no_more = m.0;
    bounds = λ x j. ⊎_elim (λ e. rw e (o.bounds p low x j)) (λ e. rw e (o.bounds _ i x (joins_cover c j))) m.2;
  }

  -- or one that is kept, of late sets
  pub tight_recalled : {rows : Rows} {row top most set calls : ℕ} → mode.listing ≡ false → weights ≡ weights_at rows row → Nogoods (tasks_in t) list count
      → Capped t rows (key_of s sets p row) top
      → (most ≤ get_or tops p 0) × (most ≤ top) × ((most ≡ get_or tops p 0) ⊎ (most ≡ top)) → TightAs t mode s weights sets tops p list count list (record { most = most; set = set; count = count; calls = calls })
  tight_recalled {top = top} e v w c m = record {
    list = extended_refl w;
    no_more = m.0;
    bounds = λ x j.
        let k : weight_of t.tasks.count weights x ≤ top = rw v (c.bounds x (takes_map (λ y late. subst (λ (b : Bool). Bad (tasks_in t) b list count y) (sym e) late) j.takes) j.inside) in
        ⊎_elim (λ i. rw i (o.bounds p low x j)) (λ i. rw i k) m.2;
  }

  -- or by packing
  pub tight_packed : Sound t → Fits t s → Eligible t s p (get_or sets p 0) → {reach : ℕ} {new : List ℕ} (r : Packed) {most set calls : ℕ}
      → PackedAs t.tasks.count (tasks_in t) mode t.tasks.memory (exclusions_of t) (loads_of t) weights (pack_of s sets tops p reach) list count new r
      → (most ≤ get_or tops p 0) × (most ≤ r.most) × ((most ≡ get_or tops p 0) ⊎ (most ≡ r.most)) → TightAs t mode s weights sets tops p list count new (record { most = most; set = set; count = r.count; calls = calls })
  tight_packed h f e r a m = record {
    list = extended_map (λ c g. met_among h f low (has (get_or sets p 0)) e.waits e.resides g) a.list;
    no_more = m.0;
    bounds = λ x j.
        let b = o.bounds p low x (joins_map (λ y. bad_grows (tasks_in t) mode.listing y a.list.grows) j) in
        ⊎_elim (λ i. omega arith) (λ i. omega (arith, a.bounds x j.takes j.inside (omega arith))) m.2;
  }

-- a bound that can be kept
pub tight_capped : {t : Table} {mode : Mode} {s : State} {weights sets tops old new : List ℕ} {rows : Rows} {row p before : ℕ} (r : Tightened) → mode.listing ≡ false
    → weights ≡ weights_at rows row → TightAs t mode s weights sets tops p old before new r
    → Capped t rows (key_of s sets p row) r.most
tight_capped {t} {new = new} r e v a = record {
  bounds = λ x w f. rw (← v) (a.bounds x (record { inside = f; takes = takes_map (λ y bad. subst (λ (b : Bool). Bad (tasks_in t) b new r.count y) e bad) w }));
}

-- what the packing leaves, by the table's rows
pub packed_as : {t : Table} {sizes : Sizes} {timing : Timing} {rows : Rows} {links : Messages} → Lends t sizes timing rows links
    → {mode : Mode} {weights : List ℕ} {pack : Pack} {old new : List ℕ} {before : ℕ} {r : Packed}
    → PackedAs sizes.tasks (tasks_of sizes.tasks timing) mode rows.memory rows.exclusions rows.load weights pack old before new r
    → PackedAs t.tasks.count (tasks_in t) mode t.tasks.memory (exclusions_of t) (loads_of t) weights pack old before new r
packed_as l a = rw (lent_tasks l, l.rules.tasks, l.rules.same_memory, l.rules.same_exclusions, l.rules.same_loads) at a

-- ---- the loop over the processors

pub record Tightening (t : Table) (mode : Mode) (s : State) (weights sets old : List ℕ) (before : ℕ) (tops new : List ℕ) (listed : ℕ) : Type 0 where
  pub list : Extended (Met t (Within (standing s.on))) (tasks_in t) old before new listed
  pub holds : Tops t s (Bad (tasks_in t) mode.listing new listed) weights sets tops

pub tightening_start : {t : Table} {mode : Mode} {s : State} {weights sets tops list : List ℕ} {count : ℕ} → Nogoods (tasks_in t) list count
    → Tops t s (Bad (tasks_in t) mode.listing list count) weights sets tops → Tightening t mode s weights sets list count tops list count
tightening_start w o = record { list = extended_refl w; holds = o }

module _ {t : Table} {mode : Mode} {s : State} {weights sets old : List ℕ} {before : ℕ} {tops list : List ℕ} {listed : ℕ}
    (w : Tightening t mode s weights sets old before tops list listed) where
  -- the next processor's bound can be made tighter
  pub tightening_topped : Weighable t mode s sets old before → Topped t mode s weights sets tops list listed
  tightening_topped x = record { fits = x.fits; nogoods = w.list.nogoods; eligible = λ p low. (x.choices p low).eligible; holds = w.holds }

  pub tightening_next : {p : ℕ} → p < length tops → {new : List ℕ} (r : Tightened) → TightAs t mode s weights sets tops p list listed new r
      → Tightening t mode s weights sets old before (set tops p r.most) new r.count
  tightening_next {p} low {new} r a = record {
    list = extended_trans w.list a.list;
    holds = record {
      small = set_all (λ i x. x ≤ heaviest) tops p r.most low w.holds.small (omega (arith, a.no_more, w.holds.small p));
      bounds = λ i l. go i l (ℕ_discrete i p);
    };
  }
    where
      go : (i : ℕ) → i < t.processors.count → Dec (i ≡ p) → Bounds t s (Bad (tasks_in t) mode.listing new r.count) weights sets i (get_or (set tops p r.most) i 0)
      go i l (yes e) = rw (e, get_or-set_same tops p r.most 0 low) a.bounds
      go i l (no e) = λ x j. rw (get_or-set_other tops p i r.most 0 e) (w.holds.bounds i l x (joins_map (λ y. bad_grows (tasks_in t) mode.listing y a.list.grows) j))

  -- the open tasks weigh more than all processors can take
  pub tightening_end : Sound t → Weighable t mode s sets old before → {sum need : ℕ} → sum ≡ sum_to t.processors.count (λ p. get_or tops p 0)
      → need ≡ weight_of t.tasks.count weights s.left → BoundedAs t mode s old before list (record { hopeless = ltb sum need; count = listed })
  tightening_end h x {sum} {need} e i = record { list = w.list; answer = λ o. refuted_fair h mode.listing list listed (λ q fair. none o q fair) }
    where
      none : ltb sum need ≡ true → (q : List ℕ) → Fair t s (Bad (tasks_in t) mode.listing list listed) q → ⊥
      none o q fair =
          omega (
            arith,
            ltb-true sum need o,
            open_sum_lem s fair.whole weights,
            sum_le t.processors.count (λ p. weight_of t.tasks.count weights (open_on t.tasks.count s q p)) (λ p. get_or tops p 0)
                (λ p l. w.holds.bounds p l (open_on t.tasks.count s q p) (fair_joins h x.fits fair l (choice_map (λ y. bad_grows (tasks_in t) mode.listing y w.list.grows) (x.choices p l)))),
          )
