-- What the state keeps of each processor is right: a task that is taken away there may not stand, by the rules or because its set is late. Assumes nothing.
use mathlib.Core.Path.{◌≡◌, subst}
use mathlib.Core.Logic.{⊎_elim}
use mathlib.Core.Bool.{Bool, true, false, not, ◌&&◌, cond}
use mathlib.Core.List.{List}
use Rattle.std.proofs.Common.{Option, Some, None}
use Rattle.std.specs.Option.{is_some}
use Prim.Native.Nat.{ℕ, ◌≤◌, ◌<◌}
use native.Mathlib.Decide.{dec_lt}
use native.Mathlib.Omega.{arith}
use borrow.Author.Tests.{lt-ltb}
use lib.Bits.{bit_and}
use lib.Dec.{T, eqb, ltb, eqb_refl}
use lib.ListN.{get_or, replicate, get_or-replicate}
use Rattle.finite.proofs.Some.{Answer, passes, fails, answer, or_left, or_right, or_either}
use Rattle.mask.specs.Mask.{has, insert_of, mask_of}
use Rattle.mask.proofs.Tests.{and_both, and_left, and_right}
use Rattle.mask.proofs.Laws.{has_and, has_insert, has_mask}
use Rattle.table.specs.declared.Table.{Table}
use Rattle.table.specs.Sound.{Sound}
use Rattle.table.proofs.Columns.{column_in}
use Rattle.schedule.specs.Periodic.{Tasks, LateSet}
use Rattle.schedule.specs.Response.{late_test}
use Rattle.schedule.specs.Arrays.{tasks_of, Says}
use Rattle.schedule.proofs.LateSets.{late_says, empty_not_late}
use Rattle.rules.specs.Placement.{placed, and_task}
use Rattle.rules.specs.Sets.{standing}
use Rattle.rules.proofs.Placed.{placed_is}
use Rattle.timing.specs.Timing.{tasks_in}
use Rattle.timing.proofs.Limits.{valid_tasks, constrained_tasks}
use Rattle.judge.specs.Judge.{PlacementOf}
use Rattle.nogoods.specs.declared.Mode.{Mode}
use Rattle.nogoods.specs.Nogoods.{quiet}
use Rattle.nogoods.proofs.Verdicts.{bad_more}
use Rattle.partial.specs.declared.Sizes.{Sizes}
use Rattle.partial.specs.declared.State.{State}
use Rattle.partial.specs.Partial.{Fits, Stepped, site_of}
use Rattle.partial.specs.Tests.{trial_of, TrialOf}
use Rattle.partial.proofs.Deciding.{trial_right}
use Rattle.partial.proofs.OneMore.{residence_needed}
use Rattle.region.specs.Region.{Within, Refuted}
use Rattle.region.specs.Lends.{Lends}
use Rattle.region.specs.Begins.{OthersRefuted, Narrowed, with_may, AllNarrowed}
use Rattle.region.proofs.Refuting.{and_within, refuted_broken, refuted_set}
use Rattle.region.proofs.Lending.{lent_tasks}
use Rattle.region.proofs.Narrowing.{others_step, narrowed_step, narrowed_may}
use Rattle.candidates.specs.Candidates.{Fair, Choices}
use Rattle.narrowing.specs.Narrowing.{may_stand, narrow_of, may_of, reaches, prepared_of, refreshed_of}
use Rattle.schedule.specs.declared.Timing.{Timing}
use Rattle.rows.specs.declared.Rows.{Rows}
use Rattle.rows.specs.declared.Messages.{Messages}

module _ {t : Table} {sizes : Sizes} {timing : Timing} {rows : Rows} {links : Messages} (l : Lends t sizes timing rows links) (list : List ℕ) (count : ℕ) where
  module _ {s : State} (f : Fits t s) where
    -- the open task k on processor p
    module _ (k p : ℕ) (waits : T (has s.left k)) (low : p < t.processors.count) where
      trial : TrialOf t s k p (trial_of rows links sizes (site_of s p) k p)
      trial = trial_right l.rules f k p waits (rw l.rules.processors low)

      -- where it may stand, it may reside
      stands_resides : T (may_stand timing rows links sizes false list count (site_of s p) p k) → T (has (get_or t.tasks.residence k 0) p)
      stands_resides u = go (trial_of rows links sizes (site_of s p) k p) (and_left (is_some (trial_of rows links sizes (site_of s p) k p)) _ u) trial
        where
          go : (r : Option ℕ) → T (is_some r) → TrialOf t s k p r → T (has (get_or t.tasks.residence k 0) p)
          go None v w = elim v [ ]
          go (Some added) v w = residence_needed t l.rules.sound (standing s.on) f.keeps k p (f.open_task k waits).0 low w.keeps

      -- its set is late
      late_refuted : T (late_test (tasks_of sizes.tasks timing) (has (insert_of (get_or s.on p 0) k))) → Refuted t (LateSet (tasks_in t)) (Within (and_task (standing s.on) k p))
      late_refuted u =
          refuted_set t (LateSet (tasks_in t)) (and_task (standing s.on) k p) p (bad_more (valid_tasks h) (constrained_tasks h) false list count)
          (bad_more (valid_tasks h) (constrained_tasks h) false list count (has (insert_of (get_or s.on p 0) k)) (λ j. and_task (standing s.on) k p j p) there late)
        where
          h : Sound t
          h = l.rules.sound

          late : LateSet (tasks_in t) (has (insert_of (get_or s.on p 0) k))
          late =
              go (late_test (tasks_in t) (has (insert_of (get_or s.on p 0) k))) (subst (λ (x : Tasks). T (late_test x (has (insert_of (get_or s.on p 0) k)))) (lent_tasks l) u)
              (late_says (tasks_in t) (valid_tasks h) (has (insert_of (get_or s.on p 0) k)) (constrained_tasks h))
            where
              go : (b : Bool) → T b → Says b (LateSet (tasks_in t) (has (insert_of (get_or s.on p 0) k))) → LateSet (tasks_in t) (has (insert_of (get_or s.on p 0) k))
              go false v w = elim v [ ]
              go true v w = w

          there : (j : ℕ) → T (has (insert_of (get_or s.on p 0) k) j) → T (and_task (standing s.on) k p j p)
          there j v =
              ⊎_elim (λ e. or_left (eqb j k && eqb p p) (standing s.on j p) (and_both (eqb j k) (eqb p p) e (eqb_refl p))) (or_right (eqb j k && eqb p p) (standing s.on j p))
              (or_either (eqb j k) (has (get_or s.on p 0) j) (rw (has_insert (get_or s.on p 0) k j) at v))

      -- where it may not stand, its region is refuted
      closed_refuted : (T (may_stand timing rows links sizes false list count (site_of s p) p k) → ⊥) → Refuted t (LateSet (tasks_in t)) (Within (and_task (standing s.on) k p))
      closed_refuted g =
          go (trial_of rows links sizes (site_of s p) k p) (late_test (tasks_of sizes.tasks timing) (has (insert_of (get_or s.on p 0) k))) g trial late_refuted
        where
          go : (r : Option ℕ) (b : Bool) → (T (is_some r && not b) → ⊥) → TrialOf t s k p r
              → (T b → Refuted t (LateSet (tasks_in t)) (Within (and_task (standing s.on) k p))) → Refuted t (LateSet (tasks_in t)) (Within (and_task (standing s.on) k p))
          go None b e w late = refuted_broken t (LateSet (tasks_in t)) (and_task (standing s.on) k p) w
          go (Some added) true e w late = late tt
          go (Some added) false e w late = absurd (e tt)

    -- a processor that is tested anew
    narrowed_anew : (p set : ℕ) → p < t.processors.count → OthersRefuted t s p set
        → Narrowed t s p (narrow_of timing rows links sizes false list count (site_of s p) p (bit_and set s.left))
    unfolding narrow_of
    narrowed_anew p set low others = record {
      eligible = record { waits = λ k u. open_one k u; resides = λ k u. stands_resides k p (open_one k u) low (and_right (has (bit_and set s.left) k) _ (inside k u)) };
      others = λ k waits out. go k waits out (answer (has set k));
    }
      where
        stands : ℕ → Bool
        stands k = may_stand timing rows links sizes false list count (site_of s p) p k

        test : ℕ → Bool
        test k = has (bit_and set s.left) k && stands k

        inside : (k : ℕ) → T (has (mask_of 32 test) k) → T (test k)
        inside k u = and_right (ltb k 32) (test k) (rw (has_mask 32 test k) at u)

        open_one : (k : ℕ) → T (has (mask_of 32 test) k) → T (has s.left k)
        open_one k u = and_right (has set k) (has s.left k) (rw (has_and set s.left k) at (and_left (has (bit_and set s.left) k) (stands k) (inside k u)))

        go : (k : ℕ) → T (has s.left k) → (T (has (mask_of 32 test) k) → ⊥) → Answer (has set k) → Refuted t (LateSet (tasks_in t)) (Within (and_task (standing s.on) k p))
        go k waits out (fails g) = others k waits g
        go k waits out (passes u) =
            let small : k < 32 = omega (arith, (f.open_task k waits).0, l.rules.sound.tasks.most) in
            closed_refuted k p waits low
            (λ v. out (rw (has_mask 32 test k, lt-ltb k 32 small) (and_both (has (bit_and set s.left) k) (stands k) (rw (has_and set s.left k) (and_both (has set k) (has s.left k) u waits)) v)))

    -- what is kept of a processor, by whether it is tested anew
    narrowed_at : (sets : List ℕ) (anew p : ℕ) → p < t.processors.count → OthersRefuted t s p (get_or sets p 0)
        → ((T (has anew p) → ⊥) → Narrowed t s p (bit_and (get_or sets p 0) s.left)) → Narrowed t s p (get_or (may_of timing rows links sizes false list count s sets anew) p 0)
    unfolding may_of
    narrowed_at sets anew p low others still =
        let few : sizes.processors ≤ 8 = omega (arith, l.rules.processors, l.rules.sound.processors.most) in
        let here : p < sizes.processors = omega (arith, low, l.rules.processors) in
        rw (column_in 8 sizes.processors _ p few here) (go (has anew p) still)
      where
        go : (b : Bool) → ((T b → ⊥) → Narrowed t s p (bit_and (get_or sets p 0) s.left))
            → Narrowed t s p (cond b (narrow_of timing rows links sizes false list count (site_of s p) p (bit_and (get_or sets p 0) s.left)) (bit_and (get_or sets p 0) s.left))
        go true g = narrowed_anew p (get_or sets p 0) low others
        go false g = g (λ v. v)

    -- where a search begins
    pub prepared_narrowed : (limited : Bool) → AllNarrowed t (with_may s (prepared_of timing rows links sizes s (quiet limited) list count))
    prepared_narrowed limited p low = narrowed_may _ (narrowed_at (replicate 8 s.left) (mask_of sizes.processors (λ r. true)) p low
        (λ k waits out. absurd (out (rw (get_or-replicate 8 p s.left 0 (omega (arith, low, l.rules.sound.processors.most))) waits)))
        (λ out. absurd (out (rw (has_mask sizes.processors (λ r. true) p, lt-ltb p sizes.processors (omega (arith, low, l.rules.processors))) tt))))

  -- after a task
  module _ {s next : State} {k p : ℕ} (known : AllNarrowed t s) (step : Stepped t s k p next) (same : next.may ≡ s.may) where
    pub refreshed_narrowed : (mode : Mode) → mode.listing ≡ false → AllNarrowed t (with_may next (refreshed_of timing rows links sizes next k p mode list count))
    refreshed_narrowed mode e r low = rw e (narrowed_may _ (narrowed_at step.fits next.may (cond (reaches rows sizes k) (mask_of sizes.processors (λ q. true)) (insert_of 0 p)) r low
        (others_step step r (get_or next.may r 0) before.others) (λ out. narrowed_step step before)))
      where
        before : Narrowed t s r (get_or next.may r 0)
        before = rw same (known r low)

-- ---- what is kept as candidates

-- a late set of a placement is that of one of the processors
late_low : {t : Table} {q : List ℕ} → PlacementOf t q → {r : ℕ} → LateSet (tasks_in t) (λ k. placed q k r) → r < t.processors.count
late_low {t} {q} w {r} late = go (dec_lt r t.processors.count)
  where
    go : Dec (r < t.processors.count) → r < t.processors.count
    go (yes l) = l
    go (no f) = absurd (empty_not_late (λ k u. let e = placed_is q k r u in f (omega (arith, e.1, w.known k e.0))) late)

-- a fair placement has no other open task there
pub narrowed_choices : {t : Table} {s : State} → AllNarrowed t s → Choices t s (LateSet (tasks_in t)) s.may
narrowed_choices {t} {s} known p low = record { eligible = (known p low).eligible; complete = λ q fair k waits there. go q fair k waits there (answer (has (get_or s.may p 0) k)) }
  where
    go : (q : List ℕ) → Fair t s (LateSet (tasks_in t)) q → (k : ℕ) → T (has s.left k) → T (placed q k p) → Answer (has (get_or s.may p 0) k) → T (has (get_or s.may p 0) k)
    go q fair k waits there (passes u) = u
    go q fair k waits there (fails g) =
        let r = (known p low).others k waits g q fair.whole (and_within (standing s.on) k p (placed q) fair.inside there) fair.keeps in
        absurd (fair.clear r.0 (late_low fair.whole r.1) r.1)
