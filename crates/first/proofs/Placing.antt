-- The search for the first placement: a task on a processor, taken or passed over; the loop over the processors; the next task. Assumes nothing.
use mathlib.Core.Path.{◌≡◌, refl, sym, ap, subst, ◌∙◌}
use mathlib.Core.Logic.{inl}
use mathlib.Core.Bool.{Bool, true, false, ◌&&◌, true≢false}
use mathlib.Core.List.{List}
use Rattle.std.proofs.Common.{Option, Some, None}
use Rattle.std.specs.Prelude.{IsSome}
use Prim.Native.Nat.{ℕ, ◌+◌, ◌≤◌, ◌<◌}
use native.Mathlib.Omega.{arith}
use native.Mathlib.Decide.{ℕ_discrete, dec_lt}
use borrow.Author.Tests.{ne_eqb}
use lib.Dec.{T, eqb}
use lib.ListN.{get_or}
use Rattle.finite.proofs.Some.{or_right}
use Rattle.mask.specs.Mask.{has, remove_of}
use Rattle.mask.proofs.Laws.{has_remove, remove_not, remove_subset}
use Rattle.std.specs.Prelude.{Option, Some, None, is_some}
use Rattle.table.specs.declared.Table.{Table}
use Rattle.table.specs.Sound.{Sound}
use Rattle.schedule.specs.Periodic.{LateSet}
use Rattle.schedule.proofs.LateSets.{late_within}
use Rattle.rules.specs.Placement.{and_task, Part}
use Rattle.rules.specs.Sets.{standing}
use Rattle.rules.proofs.Monotone.{keeps_part}
use Rattle.timing.specs.Timing.{tasks_in}
use Rattle.timing.proofs.Limits.{valid_tasks, constrained_tasks}
use Rattle.nogoods.specs.Nogoods.{Nogoods, lists, Covered}
use Rattle.nogoods.proofs.Growth.{extended_refl}
use Rattle.partial.specs.declared.State.{State}
use Rattle.partial.specs.Partial.{Stepped, StepOf}
use Rattle.goal.specs.Order.{EarlierThan}
use Rattle.region.specs.Region.{Within, Refuted, Witness, Marked, Settled}
use Rattle.region.specs.Begins.{Stands, Ready}
use Rattle.rules.proofs.Placed.{placed_is}
use Rattle.region.proofs.Refuting.{and_there, and_part, and_within}
use Rattle.region.proofs.Settling.{settled_nothing, settled_covered, settled_cut, settled_passed, first_start, first_pass, first_step, first_end}
use Rattle.symmetry.specs.Symmetry.{Interchangeable}
use Rattle.symmetry.proofs.Swap.{swap_refuted}
use Rattle.restarts.specs.declared.Listed.{Listed}
use Rattle.restarts.specs.Restarts.{DecidedAs, CutAs, CoveringAs}
use Rattle.first.specs.declared.Tried.{Tried}
use Rattle.first.specs.declared.Reached.{Reached}
use Rattle.first.specs.First.{InTime, Placing, Trying, SettledBy, TriesAs, TriedAs, FirstOf}

-- a test that was made
pub held : {b x : Bool} → b ≡ x → b ≡ true → T x
held e f = subst T (sym (sym e ∙ f)) tt

pub not_held : {b x : Bool} → b ≡ x → b ≡ false → T x → ⊥
not_held e f u = subst T (sym e ∙ f) u

pub some_found : {d : Option (List ℕ)} {b : Bool} → b ≡ is_some d → b ≡ true → d ≡ None → ⊥
some_found e f g = true≢false (sym f ∙ e ∙ ap is_some g)

pub none_found : (d : Option (List ℕ)) {b : Bool} → b ≡ is_some d → b ≡ false → d ≡ None
none_found (Some sets) e f = absurd (true≢false (sym e ∙ f))
none_found None e f = refl

module _ {t : Table} (h : Sound t) {s : State} {k : ℕ} {witness list : List ℕ} {count : ℕ} (w : Placing t s k witness list count) where
  -- the sets of the state are not late, being part of a good placement
  in_time : (p : ℕ) → InTime t (has (get_or s.on p 0))
  in_time p l = w.good.clear p (late_within (tasks_in t) (valid_tasks h) (constrained_tasks h) (has (get_or s.on p 0)) (has (get_or witness p 0)) (λ j. w.good.part j p) l)

  pub deciding : Ready t s
  deciding = record { fits = w.fits; in_time = in_time }

  pub listing : Stands t lists s list count
  listing = record { fits = w.fits; nogoods = w.nogoods; clear = λ p. inl (in_time p) }

  -- the rules allow a task where a good placement has it
  pub step_taken : {sets : List ℕ} (p : ℕ) → Witness t (InTime t) (and_task (standing s.on) k p) sets → (r : Option State) → StepOf t s k p r → IsSome r
  step_taken {sets} p g (Some next) a = refl
  step_taken {sets} p g None a = absurd (a (keeps_part t (and_task (standing s.on) k p) (standing sets) g.part g.keeps))

  -- the next task
  pub placing_next : {sets new : List ℕ} {next : State} {p at : ℕ} → k < t.tasks.count → Nogoods (tasks_in t) new at → Witness t (InTime t) (and_task (standing s.on) k p) sets → Stepped t s k p next
      → Placing t next (k + 1) sets new at
  placing_next {sets} {next = next} l m g step = record {
    fits = step.fits;
    nogoods = m;
    good = subst (λ (on : ℕ → ℕ → Bool). Witness t (InTime t) on sets) (sym step.on) g;
    upto = omega arith;
    open_from = λ j a b. rw (step.left, has_remove s.left k j, ne_eqb j k (λ e. omega (arith, e))) (w.open_from j (omega arith) b);
    placed_below = λ j a u. below j a (rw step.left at u) (ℕ_discrete j k);
  }
    where
      below : (j : ℕ) → j < k + 1 → T (has (remove_of s.left k) j) → Dec (j ≡ k) → ⊥
      below j a u (yes e) = remove_not s.left k (subst (λ (i : ℕ). T (has (remove_of s.left k) i)) e u)
      below j a u (no f) = w.placed_below j (omega (arith, f)) (remove_subset s.left k j u)

-- ---- task k on processor p

module _ {t : Table} {s : State} {k p : ℕ} {witness list : List ℕ} {listed : Listed} (x : Trying t s k p witness list listed) where
  -- the good placement at hand has task k there
  pub tried_held : T (standing witness k p) → TriedAs t s k p witness list listed list (record { placement = Some witness; listed = listed })
  tried_held u =
      let g = x.placing.good in
      (refl, refl, record { part = and_within (standing s.on) k p (standing witness) g.part u; whole = g.whole; keeps = g.keeps; clear = g.clear })

  -- it is interchangeable with a processor that was passed over
  pub tried_symmetric : (T (standing witness k p) → ⊥) → (q : ℕ) → q < p → Interchangeable t s q p
      → TriedAs t s k p witness list listed list (record { placement = None; listed = listed })
  tried_symmetric f q a i = (
    record { refuted = swapped (LateSet (tasks_in t)) (x.passed.refuted q a); list = extended_refl x.placing.nogoods; mark = mark listed.cut (x.passed.covered q a) },
    f,
  )
    where
      swapped : (B : (ℕ → Bool) → Type 0) → Refuted t B (Within (and_task (standing s.on) k q)) → Refuted t B (Within (and_task (standing s.on) k p))
      swapped B = swap_refuted x.placing.fits i B k

      mark : (c : Bool) → (c ≡ false → Refuted t (Covered list listed.count) (Within (and_task (standing s.on) k q)))
          → Marked t (Within (and_task (standing s.on) k p)) c list listed.count c
      mark false g = (refl, swapped (Covered list listed.count) (g refl))
      mark true g = inl refl

  -- one is found; or none is there, and the list is cut already
  pub tried_decided : (d : Option (List ℕ)) → DecidedAs t (and_task (standing s.on) k p) d → (T (standing witness k p) → ⊥) → (d ≡ None → listed.cut ≡ true)
      → TriedAs t s k p witness list listed list (record { placement = d; listed = listed })
  tried_decided (Some sets) y f c = (refl, refl, y)
  tried_decided None y f c = (
    subst (λ (b : Bool). Settled t (Within (and_task (standing s.on) k p)) list listed.count b list listed.count b) (sym (c refl)) (settled_passed y x.placing.nogoods),
    f,
  )

  -- none is there, and the conflicts are listed
  pub tried_listed : Sound t → DecidedAs t (and_task (standing s.on) k p) None → (T (standing witness k p) → ⊥) → listed.cut ≡ false
      → {new : List ℕ} (r : Listed) → CoveringAs t (and_task (standing s.on) k p) list listed.count new r
      → TriedAs t s k p witness list listed new (record { placement = None; listed = r })
  tried_listed h y f c {new} r z = (
    subst (λ (b : Bool). Settled t (Within (and_task (standing s.on) k p)) list listed.count b new r.count r.cut) (sym c) (go r.cut z.mark),
    f,
  )
    where
      go : (b : Bool) → CutAs b t (and_task (standing s.on) k p) new r.count
          → Settled t (Within (and_task (standing s.on) k p)) list listed.count false new r.count b
      go false a = settled_covered y z.list a
      go true a = settled_cut h y z.list a.1

-- ---- the loop over the processors of task k

-- the placements with it on one below p are settled, and the good placement at hand has it on none of them
pub record Passing (t : Table) (s : State) (k : ℕ) (witness old : List ℕ) (before : Listed) (p : ℕ) (list : List ℕ) (at : Listed) : Type 0 where
  pub settled : SettledBy t (λ e. Within (standing s.on) e × (get_or e k 0 < p)) old before list at
  pub absent : (r : ℕ) → r < p → T (standing witness k r) → ⊥

module _ {t : Table} {s : State} {k : ℕ} {witness old : List ℕ} (before : Listed) (w : Placing t s k witness old before.count) where
  pub passing_start : Passing t s k witness old before 0 old before
  passing_start = record { settled = first_start (standing s.on) (settled_nothing w.nogoods); absent = λ r l. absurd (omega arith) }

  -- all tasks are placed
  pub first_whole : Sound t → t.tasks.count ≤ k → FirstOf t s old before old (record { on = s.on; listed = before })
  first_whole h l = record {
    good = record {
      part = λ j p u. u;
      whole = record { partial = w.fits.partial; somewhere = λ j a. w.fits.placed_task j a (w.placed_below j (omega arith)) };
      keeps = w.fits.keeps;
      clear = in_time h w;
    };
    settled = first_end s.on (settled_nothing w.nogoods);
  }

module _ {t : Table} {s : State} {k p : ℕ} {witness old list : List ℕ} {before at : Listed} (x : Passing t s k witness old before p list at) (w : Placing t s k witness old before.count) where
  -- the next processor can be tried
  pub passing_trying : Trying t s k p witness list at
  passing_trying = record {
    placing = record { fits = w.fits; nogoods = x.settled.list.nogoods; good = w.good; upto = w.upto; open_from = w.open_from; placed_below = w.placed_below };
    passed = record {
      refuted = λ q l e v u. x.settled.refuted e v (below q l e u);
      covered = λ q l c e v u. mark at.cut c x.settled.mark e v (below q l e u);
    };
  }
    where
      below : (q : ℕ) → q < p → (e : List ℕ) → Within (and_task (standing s.on) k q) e → Within (standing s.on) e × (get_or e k 0 < p)
      below q l e u = (λ j r v. u j r (and_part (standing s.on) k q j r v), omega (arith, l, (placed_is e k q (u k q (and_there (standing s.on) k q))).1))

      mark : (b : Bool) → b ≡ false → Marked t (λ e. Within (standing s.on) e × (get_or e k 0 < p)) before.cut list at.count b
          → Refuted t (Covered list at.count) (λ e. Within (standing s.on) e × (get_or e k 0 < p))
      mark false c m = m.1
      mark true c m = absurd (true≢false c)

  module _ (new : List ℕ) (r : Tried) (y : TriedAs t s k p witness list at new r) where
    -- task k is passed over on p
    pub passing_next : k < t.tasks.count → r.placement ≡ None → Passing t s k witness old before (p + 1) new r.listed
    passing_next l e =
        let z = subst (λ (d : Option (List ℕ)). TriesAs d t s k p witness list at new r.listed) e y in
        record { settled = first_pass (standing s.on) x.settled z.0 l; absent = λ q a. go q a z.1 (dec_lt q p) }
      where
        go : (q : ℕ) → q < p + 1 → (T (standing witness k p) → ⊥) → Dec (q < p) → T (standing witness k q) → ⊥
        go q a f (yes b) = x.absent q b
        go q a f (no b) = let i : p ≡ q = omega arith in subst (λ (j : ℕ). T (standing witness k j) → ⊥) i f

    -- it is taken there
    module _ {held : List ℕ} (e : r.placement ≡ Some held) where
      taken : TriesAs (Some held) t s k p witness list at new r.listed
      taken = subst (λ (d : Option (List ℕ)). TriesAs d t s k p witness list at new r.listed) e y

      pub taken_good : Witness t (InTime t) (and_task (standing s.on) k p) held
      taken_good = taken.2

      settled_so_far : SettledBy t (λ e. Within (standing s.on) e × (get_or e k 0 < p)) old before new r.listed
      settled_so_far = rw (taken.0, taken.1) x.settled

      pub taken_nogoods : Nogoods (tasks_in t) new r.listed.count
      taken_nogoods = settled_so_far.list.nogoods

      pub first_taken : {next : State} {last : List ℕ} → k < t.tasks.count → Stepped t s k p next → (f : Reached) → FirstOf t next new r.listed last f → FirstOf t s old before last f
      first_taken {next} {last} l step f z = record {
        good = record { part = λ j q u. part j q (or_right (eqb j k && eqb q p) (standing s.on j q) u); whole = z.good.whole; keeps = z.good.keeps; clear = z.good.clear };
        settled = first_step (standing s.on) (λ j a. w.fits.placed_task j (omega arith) (w.placed_below j a)) part z.good.whole.partial settled_so_far
            (subst (λ (on : ℕ → ℕ → Bool). SettledBy t (λ e. Within on e × EarlierThan (standing f.on) e) new r.listed last f.listed) step.on z.settled) l;
      }
        where
          part : Part (and_task (standing s.on) k p) (standing f.on)
          part = subst (λ (on : ℕ → ℕ → Bool). Part on (standing f.on)) step.on z.good.part

  -- every processor is passed over: the good placement at hand says that this cannot be
  pub not_missed : k < t.tasks.count → t.processors.count ≤ p → ⊥
  not_missed l m = let u = w.good.whole.somewhere k l in x.absent u.0 (omega (arith, w.good.whole.partial.processor k u.0 u.1)) u.1
