-- A subset with its next task: what its open tasks take, and the processors on which it could stand. Assumes nothing.
use mathlib.Core.Path.{◌≡◌, refl, sym, ap}
use mathlib.Core.Logic.{◌⊎◌, inl, inr, ⊎_elim}
use mathlib.Core.Bool.{Bool, true, false, ◌&&◌, ◌||◌, cond}
use mathlib.Core.List.{List}
use Prim.Native.Nat.{ℕ, ◌+◌, ◌*◌, ◌/◌, ◌≤◌, ◌<◌}
use native.Mathlib.Omega.{arith}
use borrow.Author.Tests.{eq-eqb, ne_eqb}
use lib.Dec.{T, eqb, ltb, leb, eqb→eq, eqb_refl, lt→ltb, ltb→lt, le→leb}
use lib.ListN.{get_or}
use Rattle.finite.specs.Finite.{only, sum_to}
use Rattle.finite.proofs.Some.{or_left, or_right, or_either}
use Rattle.finite.proofs.Sum.{sum_ext, sum_zero, sum_at}
use Rattle.finite.proofs.Only.{sum_more, sum_either}
use Rattle.mask.specs.Mask.{has, insert_of, mask_of}
use Rattle.mask.proofs.Tests.{same_test, and_both, and_left, and_right}
use Rattle.mask.proofs.Laws.{has_zero, has_insert, has_mask}
use Rattle.table.specs.declared.Table.{Table}
use Rattle.rules.specs.Placement.{placed, and_task}
use Rattle.rules.specs.Rules.{memory_on, memory_broken, load_on, utilisation_broken}
use Rattle.rules.specs.Sets.{standing, meets}
use Rattle.rules.proofs.Monotone.{keeps_part}
use Rattle.rules.proofs.Placed.{placed_is}
use Rattle.rows.specs.Rows.{loads_of, exclusions_of}
use Rattle.rows.proofs.Laws.{loads_get, neighbours_get, beside_below}
use Rattle.partial.specs.declared.Sizes.{Sizes}
use Rattle.partial.specs.declared.State.{State}
use Rattle.partial.specs.Partial.{Lent, Fits}
use Rattle.partial.proofs.MaskSets.{meets_elim}
use Rattle.partial.proofs.OneMore.{kept_le, residence_needed}
use Rattle.region.proofs.Refuting.{and_within}
use Rattle.candidates.specs.Candidates.{Fair}
use Rattle.candidates.proofs.Fairness.{stands_or_open, not_both_there}
use Rattle.subsets.specs.declared.Subset.{Subset}
use Rattle.subsets.specs.Subsets.{can_stand, takes, processors_for, joined_by, with_next}
use Rattle.late_sets.specs.LateSets.{open_sum, Kept, Possible}
use Rattle.rows.specs.declared.Rows.{Rows}
use Rattle.rows.specs.declared.Messages.{Messages}

-- a choice between two tests
cond_in : (b x y : Bool) → (T b → T x) → ((T b → ⊥) → T y) → T (cond b x y)
cond_in true x y f g = f tt
cond_in false x y f g = g (λ u. u)

pub cond_out : (b x y : Bool) → T (cond b x y) → (T b × T x) ⊎ T y
cond_out true x y u = inl (tt, u)
cond_out false x y u = inr u

-- a task of a set with k is k, or was in the set
pub one_of : (set k j : ℕ) → T (has (insert_of set k) j) → (j ≡ k) ⊎ T (has set j)
one_of set k j u = ⊎_elim (λ v. inl (eqb→eq j k v)) inr (or_either (eqb j k) (has set j) (rw (has_insert set k j) at u))

pub new_one : (set k : ℕ) → T (has (insert_of set k) k)
new_one set k = rw (has_insert set k k) (or_left (eqb k k) (has set k) (eqb_refl k))

pub old_one : (set k j : ℕ) → T (has set j) → T (has (insert_of set k) j)
old_one set k j u = rw (has_insert set k j) (or_right (eqb j k) (has set j) u)

-- ---- what the open tasks take

module _ (t : Table) (s : State) (row : List ℕ) where
  pub open_none : 0 ≡ open_sum t s row 0
  unfolding open_sum
  open_none = sym (sum_zero t.tasks.count _ (λ k l. rw (has_zero k) refl))

  pub open_insert : (set k : ℕ) → k < t.tasks.count → (T (has set k) → ⊥) → open_sum t s row set + only (has s.left k) (get_or row k 0) ≡ open_sum t s row (insert_of set k)
  unfolding open_sum
  open_insert set k l new = sym (sum_at t.tasks.count (λ j. only (has (insert_of set k) j && has s.left j) (get_or row j 0)) (λ j. only (has set j && has s.left j) (get_or row j 0)) k
      (only (has s.left k) (get_or row k 0)) l (λ j i d. rw (has_insert set k j, ne_eqb j k d) refl)
      (rw (has_insert set k k, eq-eqb k k refl, same_test (has set k) false new (λ u. absurd u)) (omega arith)))

pub one_more_lem : (rows : Rows) (m : ℕ) (s : State) (x : Subset) → (with_next rows m s x).next ≡ x.next + 1
unfolding with_next
one_more_lem rows m s x = refl

-- what is left of a processor's load, from thousandths of a full one
spare_of : (left stands more all y : ℕ) → left + stands ≡ y / 1000 → 1000 * all ≤ y → stands + more ≤ all → more ≤ left
spare_of left stands more all y a b c = omega arith

module _ {t : Table} {sizes : Sizes} {rows : Rows} {links : Messages} {s : State} (l : Lent t sizes rows links) (f : Fits t s) where
  -- ---- on a processor where a placement has the whole set

  module _ {q : List ℕ} (w : Kept t s q) {p : ℕ} (low : p < t.processors.count) where
    fair : Fair t s (λ y. ⊥) q
    fair = record { whole = w.whole; inside = w.inside; keeps = w.keeps; clear = λ r i u. u }

    task_there : (k : ℕ) → T (placed q k p) → k < t.tasks.count
    task_there k u = omega (arith, (placed_is q k p u).0, w.whole.long)

    can_stand_there : (k : ℕ) → T (placed q k p) → T (can_stand rows s k p)
    can_stand_there k u = cond_in (has s.left k) (has (get_or rows.residence k 0) p) (has (get_or s.on p 0) k) home
        (λ g. ⊎_elim (λ v. v) (λ v. absurd (g v)) (stands_or_open fair f k p u))
      where
        home : T (has s.left k) → T (has (get_or rows.residence k 0) p)
        home v = rw l.same_residence (residence_needed t l.sound (standing s.on) f.keeps k p (task_there k u) low
            (keeps_part t (and_task (standing s.on) k p) (placed q) (and_within (standing s.on) k p (placed q) w.inside u) w.keeps))

    module _ (set : ℕ) (all : (k : ℕ) → T (has set k) → T (placed q k p)) where
      sums : (g : ℕ → ℕ) → sum_to t.tasks.count (λ k. only (standing s.on k p) (g k)) + sum_to t.tasks.count (λ k. only (has set k && has s.left k) (g k))
          ≤ sum_to t.tasks.count (λ k. only (placed q k p) (g k))
      sums g = omega (
        arith,
        sum_either t.tasks.count (λ k. standing s.on k p) (λ k. has set k && has s.left k) g (λ k i u v. (f.open_task k (and_right (has set k) (has s.left k) v)).1 p u),
        sum_more t.tasks.count (λ k. standing s.on k p || (has set k && has s.left k)) (λ k. placed q k p) g
            (λ k i u. ⊎_elim (w.inside k p) (λ v. all k (and_left (has set k) (has s.left k) v)) (or_either (standing s.on k p) (has set k && has s.left k) u)),
      )

      memory_left : open_sum t s t.tasks.memory set ≤ get_or s.memory p 0
      unfolding open_sum memory_on memory_broken
      memory_left =
          omega (arith, f.memory p low, sums (λ k. get_or t.tasks.memory k 0), kept_le (get_or t.processors.memory p 0) (memory_on t (placed q) p) (w.keeps.memory p low))

      load_left : open_sum t s (loads_of t) set ≤ get_or s.load p 0
      unfolding open_sum load_on utilisation_broken
      load_left =
          let g : ℕ → ℕ = λ k. get_or t.tasks.c k 0 * t.hyperperiod / get_or t.tasks.t k 0 in
          let y : ℕ = get_or t.processors.limit p 0 * t.hyperperiod in
          let e = sum_ext t.tasks.count (λ k. only (has set k && has s.left k) (get_or (loads_of t) k 0)) (λ k. only (has set k && has s.left k) (g k))
          (λ k i. ap (λ (x : ℕ). only (has set k && has s.left k) x) (loads_get t l.sound k i)) in
          rw e (spare_of (get_or s.load p 0) (load_on t (standing s.on) p) (sum_to t.tasks.count (λ k. only (has set k && has s.left k) (g k))) (load_on t (placed q) p) y (f.load p low)
          (kept_le y (1000 * load_on t (placed q) p) (w.keeps.utilisation p low)) (sums g))

      none_excluded : (k : ℕ) → k < t.tasks.count → T (placed q k p) → T (meets (get_or rows.exclusions k 0) set) → ⊥
      none_excluded k i u m =
          let e = neighbours_get t l.sound t.ex k i in
          let r = meets_elim t.tasks.count (get_or (exclusions_of t) k 0) set (rw e (beside_below t.ex t.tasks.count k)) (rw l.same_exclusions at m) in
          not_both_there fair l.sound low r.0 k i (all r.0 r.2) u r.1

  -- ---- the processors that take a subset with task k

  module _ (m : ℕ) (x : Subset) (k p : ℕ) where
    processors_out : T (has (processors_for rows m s x k) p) → (p < m) × T (takes rows s x k p)
    unfolding processors_for
    processors_out u = go (meets (get_or rows.exclusions k 0) x.set) u
      where
        go : (b : Bool) → T (has (cond b 0 (mask_of m (takes rows s x k))) p) → (p < m) × T (takes rows s x k p)
        go true v = absurd (rw (has_zero p) at v)
        go false v = let a = rw (has_mask m (takes rows s x k) p) at v in (ltb→lt p m (and_left (ltb p m) (takes rows s x k p) a), and_right (ltb p m) (takes rows s x k p) a)

    processors_in : (T (meets (get_or rows.exclusions k 0) x.set) → ⊥) → p < m → T (takes rows s x k p) → T (has (processors_for rows m s x k) p)
    unfolding processors_for
    processors_in g i u = go (meets (get_or rows.exclusions k 0) x.set) g
      where
        go : (b : Bool) → (T b → ⊥) → T (has (cond b 0 (mask_of m (takes rows s x k))) p)
        go true h = absurd (h tt)
        go false h = rw (has_mask m (takes rows s x k) p) (and_both (ltb p m) (takes rows s x k p) (lt→ltb p m i) u)

  -- ---- the subset with its next task

  module _ {x : Subset} (w : Possible t rows s x) (next : x.next < t.tasks.count) (new-task : T (has x.set x.next) → ⊥) where
    more_memory : (joined_by rows s x).memory ≡ open_sum t s t.tasks.memory (insert_of x.set x.next)
    more_memory = rw (w.memory, l.same_memory) (open_insert t s t.tasks.memory x.set x.next next new-task)

    more_load : (joined_by rows s x).load ≡ open_sum t s (loads_of t) (insert_of x.set x.next)
    more_load = rw (w.load, l.same_loads) (open_insert t s (loads_of t) x.set x.next next new-task)

    taken : {p : ℕ} → T (has (with_next rows sizes.processors s x).processors p) → (p < sizes.processors) × T (has x.processors p) × T (can_stand rows s x.next p)
    unfolding with_next
    taken {p} u =
        let y = joined_by rows s x in
        let r = processors_out sizes.processors y x.next p u in
        let a = has x.processors p && leb y.memory (get_or s.memory p 0) in
        let b = leb y.load (get_or s.load p 0) && can_stand rows s x.next p in
        (r.0, and_left (has x.processors p) _ (and_left a b r.1), and_right (leb y.load (get_or s.load p 0)) _ (and_right a b r.1))

    reached_next : (q : List ℕ) → Kept t s q → (p : ℕ) → p < t.processors.count → ((k : ℕ) → T (has (insert_of x.set x.next) k) → T (placed q k p))
        → T (has (with_next rows sizes.processors s x).processors p)
    unfolding with_next
    reached_next q v p low all =
        let y = joined_by rows s x in
        let here = all x.next (new_one x.set x.next) in
        processors_in sizes.processors y x.next p (none_excluded v low y.set all x.next next here) (rw l.processors low)
        (and_both (has x.processors p && leb y.memory (get_or s.memory p 0)) _
        (and_both (has x.processors p) _ (w.reached q v p low (λ k u. all k (old_one x.set x.next k u))) (le→leb y.memory (get_or s.memory p 0) (rw more_memory (memory_left v low y.set all))))
        (and_both (leb y.load (get_or s.load p 0)) _ (le→leb y.load (get_or s.load p 0) (rw more_load (load_left v low y.set all))) (can_stand_there v low x.next here)))

    pub possible_next : Possible t rows s (with_next rows sizes.processors s x)
    unfolding with_next
    possible_next = record {
      memory = more_memory;
      load = more_load;
      processor = λ p u. rw (← l.processors) (taken u).0;
      stands = λ p u k v. ⊎_elim (λ e. rw e (taken u).2) (w.stands p (taken u).1 k) (one_of x.set x.next k v);
      reached = reached_next;
    }
