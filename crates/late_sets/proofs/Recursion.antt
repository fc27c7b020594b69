-- The recursion over the sets of tasks: a set that stands nowhere, a late set, the sets with the next task and those without. Assumes nothing.
use mathlib.Core.Path.{◌≡◌}
use mathlib.Core.Logic.{◌⊎◌, ⊎_elim}
use mathlib.Core.Bool.{Bool, true, false, ◌&&◌, ◌||◌, false≢true}
use mathlib.Core.List.{List}
use Prim.Native.Nat.{ℕ, ◌+◌, ◌<◌}
use native.Mathlib.Decide.{ℕ_discrete}
use native.Mathlib.Omega.{arith}
use lib.Dec.{T, ltb, lt→ltb, ltb→lt}
use lib.ListN.{get_or}
use Rattle.finite.proofs.Some.{Answer, passes, fails, answer, or_left, or_right}
use Rattle.mask.specs.Mask.{has, below, Subset as SubsetOf, mask_of}
use Rattle.mask.proofs.Tests.{and_both, and_left, and_right}
use Rattle.mask.proofs.Laws.{has_zero, has_mask, has_below, some_member}
use Rattle.table.specs.declared.Table.{Table}
use Rattle.schedule.specs.Periodic.{LateSet}
use Rattle.schedule.proofs.LateSets.{empty_not_late}
use Rattle.timing.specs.Timing.{tasks_in}
use Rattle.timing.proofs.Limits.{valid_tasks, constrained_tasks}
use Rattle.rules.specs.Placement.{placed}
use Rattle.rules.specs.Sets.{standing}
use Rattle.rules.proofs.Placed.{placed_is}
use Rattle.rows.specs.Rows.{loads_of}
use Rattle.nogoods.specs.declared.Tested.{Tested}
use Rattle.nogoods.specs.Nogoods.{Nogoods, Covered, Noted, lists}
use Rattle.nogoods.proofs.Growth.{extended_refl, extended_trans, extended_map, covered_grows, covered_more}
use Rattle.nogoods.proofs.Verdicts.{bad_more}
use Rattle.partial.specs.declared.Sizes.{Sizes}
use Rattle.partial.specs.declared.State.{State}
use Rattle.partial.specs.Partial.{Lent, Fits}
use Rattle.region.specs.Region.{Within, Met}
use Rattle.candidates.proofs.Meeting.{met_among}
use Rattle.subsets.specs.declared.Subset.{Subset}
use Rattle.late_sets.specs.declared.Covering.{Covering}
use Rattle.subsets.specs.Subsets.{with_next, Small}
use Rattle.late_sets.specs.LateSets.{Kept, Continues, Possible, InTime, BeginsWith, CoversAs}
use Rattle.late_sets.proofs.Joining.{cond_out, one_of, new_one, old_one, open_none, possible_next}
use Rattle.rows.specs.declared.Rows.{Rows}
use Rattle.rows.specs.declared.Messages.{Messages}

-- the subset without its next task: those after it may still join
abbrev pub without : Subset → Subset
without x = record { set = x.set; next = x.next + 1; processors = x.processors; memory = x.memory; load = x.load }

-- the empty set, on some processors
abbrev pub nothing : ℕ → Subset
nothing processors = record { set = 0; next = 0; processors = processors; memory = 0; load = 0 }

-- the sets with the subset's next task
abbrev pub WithNext : Subset → (ℕ → Bool) → Type 0
WithNext x y = BeginsWith x y × T (y x.next)

module _ {t : Table} {sizes : Sizes} {rows : Rows} {links : Messages} (l : Lent t sizes rows links) where
  module _ {x : Subset} {list : List ℕ} {count : ℕ} (w : Continues t x list count) where
    -- the next one is a task of the table
    pub next_task : x.next < sizes.tasks → x.next < t.tasks.count
    next_task i = rw (← l.tasks) i

    pub not_last : (x.next ≡ sizes.tasks → ⊥) → x.next < t.tasks.count
    not_last d = omega (arith, d, w.upto, l.tasks)

    -- the recursion goes on without it
    pub without_continues : x.next < t.tasks.count → {new : List ℕ} {listed : ℕ} → Nogoods (tasks_in t) new listed → Continues t (without x) new listed
    without_continues next g = record {
      nogoods = g;
      upto = omega (arith, next);
      before = λ k u. omega (arith, w.before k u);
      small = record { memory = omega (arith, w.small.memory); load = omega (arith, w.small.load) };
    }

    module _ (s : State) where
      module _ (next : x.next < t.tasks.count) where
        -- the recursion goes on with it
        pub wider_continues : Small (with_next rows sizes.processors s x) → Continues t (with_next rows sizes.processors s x) list count
        unfolding with_next
        wider_continues small = record {
          nogoods = w.nogoods;
          upto = omega (arith, next);
          before = λ k u. ⊎_elim (λ e. omega (arith, e)) (λ v. omega (arith, w.before k v)) (one_of x.set x.next k u);
          small = small;
        }

        pub wider_below : T (below t.tasks.count (with_next rows sizes.processors s x).set)
        unfolding with_next
        wider_below = has_below t.tasks.count _ (λ k u. ⊎_elim (λ e. omega (arith, e, next)) (λ v. omega (arith, w.before k v, next)) (one_of x.set x.next k u))

      -- the set with the next task, in a set of that kind
      wider_inside : {y : ℕ → Bool} → WithNext x y → (k : ℕ) → T (has (with_next rows sizes.processors s x).set k) → T (y k)
      unfolding with_next
      wider_inside {y} b k u = ⊎_elim (λ e. rw e b.1) (b.0.has_all k) (one_of x.set x.next k u)

      wider_begins : {y : ℕ → Bool} → WithNext x y → BeginsWith (with_next rows sizes.processors s x) y
      unfolding with_next
      wider_begins {y} b = record { has_all = wider_inside b; no_other = λ k i u. go k i u (ℕ_discrete k x.next) }
        where
          go : (k : ℕ) → k < x.next + 1 → T (y k) → Dec (k ≡ x.next) → T (has (with_next rows sizes.processors s x).set k)
          go k i u (yes e) = rw e (new_one x.set x.next)
          go k i u (no e) = old_one x.set x.next k (b.0.no_other k (omega arith) u)

module _ {t : Table} {sizes : Sizes} {rows : Rows} {links : Messages} {s : State} (l : Lent t sizes rows links) where
  -- a conflict within a set that can stand on p
  met_within : Fits t s → {x : Subset} → Possible t rows s x → (p : ℕ) → T (has x.processors p) → {c : ℕ} → SubsetOf c x.set → Met t (Within (standing s.on)) c
  met_within f {x} w p here {c} within = met_among l.sound f (w.processor p here) (λ k. has x.set k && has s.left k) waits home either
    where
      where_stands : (k : ℕ) → T (has x.set k) → (T (has s.left k) × T (has (get_or rows.residence k 0) p)) ⊎ T (has (get_or s.on p 0) k)
      where_stands k u = cond_out (has s.left k) (has (get_or rows.residence k 0) p) (has (get_or s.on p 0) k) (w.stands p here k u)

      waits : (k : ℕ) → T (has x.set k && has s.left k) → T (has s.left k)
      waits k u = and_right (has x.set k) (has s.left k) u

      home : (k : ℕ) → T (has x.set k && has s.left k) → T (has (get_or t.tasks.residence k 0) p)
      home k u = ⊎_elim (λ v. rw l.same_residence at v.1) (λ v. absurd ((f.open_task k (waits k u)).1 p v)) (where_stands k (and_left (has x.set k) (has s.left k) u))

      either : (k : ℕ) → T (has c k) → T (has (get_or s.on p 0) k || (has x.set k && has s.left k))
      either k u = ⊎_elim
          (λ v. or_right (has (get_or s.on p 0) k) _ (and_both (has x.set k) (has s.left k) (within k u) v.0))
          (or_left (has (get_or s.on p 0) k) _) (where_stands k (within k u))

  module _ {x : Subset} {list : List ℕ} {count : ℕ} (w : Continues t x list count) where
    module _ (f : Fits t s) (possible : Possible t rows s x) (next : x.next < t.tasks.count) where
      pub wider_possible : Possible t rows s (with_next rows sizes.processors s x)
      wider_possible = possible_next l f possible next (λ u. omega (arith, w.before x.next u))

      -- it can stand nowhere
      pub covers_nowhere : {steps : ℕ} → (with_next rows sizes.processors s x).processors ≡ 0 → CoversAs t s (WithNext x) list count list (record { complete = true; steps = steps; count = count })
      covers_nowhere e = record {
        list = extended_refl w.nogoods;
        covers = λ _ q v p b late.
            let a = placed_is q x.next p b.1 in
            let low : p < t.processors.count = omega (arith, v.whole.known x.next a.0, a.1) in
            absurd (rw (e, has_zero p) at (wider_possible.reached q v p low (wider_inside l w s b)));
      }

      -- it is late, and was tested
      pub covers_tested : {steps : ℕ} → ((with_next rows sizes.processors s x).processors ≡ 0 → ⊥) → {new : List ℕ} (r : Tested)
          → Noted (tasks_in t) lists (with_next rows sizes.processors s x).set list count new r
          → CoversAs t s (WithNext x) list count new (record { complete = r.bad; steps = steps; count = r.count })
      covers_tested d {new} r noted = record {
        list = extended_map (λ c g. met_within f wider_possible somewhere.0 somewhere.2 g) noted.list;
        covers = λ e q v p b late. covered_more (wider_inside l w s b) (verdict e);
      }
        where
          somewhere : (p : ℕ) × (p < t.processors.count) × T (has (with_next rows sizes.processors s x).processors p)
          somewhere = some_member t.processors.count _ (omega (arith, d)) (ltb→lt _ _ (has_below t.processors.count _ wider_possible.processor))

          verdict : r.bad ≡ true → Covered new r.count (has (with_next rows sizes.processors s x).set)
          verdict e = rw e at noted.verdict

    -- it is not late, and the recursion went on from it
    pub covers_wider : {new : List ℕ} {r : Covering} → CoversAs t s (BeginsWith (with_next rows sizes.processors s x)) list count new r → CoversAs t s (WithNext x) list count new r
    covers_wider a = record { list = a.list; covers = λ e q v p b. a.covers e q v p (wider_begins l w s b) }

    -- the sets without the next task could stand where they could before
    pub without_possible : Possible t rows s x → Possible t rows s (without x)
    without_possible m = record { memory = m.memory; load = m.load; processor = m.processor; stands = m.stands; reached = m.reached }

    pub covers_both : {mid : List ℕ} (a : Covering) → CoversAs t s (WithNext x) list count mid a → a.complete ≡ true
        → {new : List ℕ} (r : Covering) → CoversAs t s (BeginsWith (without x)) mid a.count new r → CoversAs t s (BeginsWith x) list count new r
    covers_both a first e {new} r then = record { list = extended_trans first.list then.list; covers = λ i q v p b late. go i q v p b late (answer (placed q x.next p)) }
      where
        go : r.complete ≡ true → (q : List ℕ) → Kept t s q → (p : ℕ) → BeginsWith x (λ k. placed q k p) → LateSet (tasks_in t) (λ k. placed q k p) → Answer (placed q x.next p)
            → Covered new r.count (λ k. placed q k p)
        go i q v p b late (passes u) = covered_grows then.list.grows (first.covers e q v p (b, u) late)
        go i q v p b late (fails g) = then.covers i q v p (record { has_all = b.has_all; no_other = λ k j u. other k j u (ℕ_discrete k x.next) }) late
          where
            other : (k : ℕ) → k < x.next + 1 → T (placed q k p) → Dec (k ≡ x.next) → T (has x.set k)
            other k j u (yes d) = absurd (g (rw d at u))
            other k j u (no d) = b.no_other k (omega arith) u

    -- the list was full, or the steps were used up
    pub covers_stopped : {mid : List ℕ} (a : Covering) → CoversAs t s (WithNext x) list count mid a → a.complete ≡ false → CoversAs t s (BeginsWith x) list count mid a
    covers_stopped a first e = record { list = first.list; covers = λ i. absurd (false≢true (rw e at i)) }

    -- no task is left to join
    pub covers_end : {steps : ℕ} → InTime t x → x.next ≡ sizes.tasks → CoversAs t s (BeginsWith x) list count list (record { complete = true; steps = steps; count = count })
    covers_end in_time e = record {
      list = extended_refl w.nogoods;
      covers = λ _ q v p b late. absurd (in_time (bad_more (valid_tasks l.sound) (constrained_tasks l.sound) false list count (λ k. placed q k p) (has x.set)
          (λ k u. b.no_other k (omega (arith, e, l.tasks, (placed_is q k p u).0, v.whole.long)) u) late));
    }

  -- the empty set can stand on every processor
  pub nothing_possible : {processors : ℕ} → processors ≡ mask_of sizes.processors (λ p. true) → Possible t rows s (nothing processors)
  nothing_possible e = record {
    memory = open_none t s t.tasks.memory;
    load = open_none t s (loads_of t);
    processor = λ p u. rw (← l.processors) (ltb→lt p sizes.processors (and_left (ltb p sizes.processors) true (rw (e, has_mask sizes.processors (λ r. true) p) at u)));
    stands = λ p u k v. absurd (rw (has_zero k) at v);
    reached = λ q v p low all. rw (e, has_mask sizes.processors (λ r. true) p) (and_both (ltb p sizes.processors) true (lt→ltb p sizes.processors (rw l.processors low)) tt);
  }

pub nothing_continues : {t : Table} {processors : ℕ} {list : List ℕ} {count : ℕ} → Nogoods (tasks_in t) list count → Continues t (nothing processors) list count
nothing_continues g = record { nogoods = g; upto = omega arith; before = λ k u. absurd (rw (has_zero k) at u); small = record { memory = omega arith; load = omega arith } }

-- it is not late
pub nothing_in_time : (t : Table) → LateSet (tasks_in t) (has 0) → ⊥
nothing_in_time t = empty_not_late (λ k u. rw (has_zero k) at u)

-- a listing that is not complete claims nothing of the sets
pub covers_none : {t : Table} {s : State} {K : (ℕ → Bool) → Type 0} {list : List ℕ} {count steps : ℕ} → Nogoods (tasks_in t) list count
    → CoversAs t s K list count list (record { complete = false; steps = steps; count = count })
covers_none g = record { list = extended_refl g; covers = λ i. absurd (false≢true i) }

pub covers_all : {t : Table} {s : State} {processors : ℕ} {list : List ℕ} {count : ℕ} {new : List ℕ} {r : Covering} → CoversAs t s (BeginsWith (nothing processors)) list count new r → CoversAs t s (λ y. Unit {0}) list count new r
covers_all a = record { list = a.list; covers = λ e q v p b. a.covers e q v p (record { has_all = λ k u. absurd (rw (has_zero k) at u); no_other = λ k i u. absurd (omega (arith, i)) }) }
