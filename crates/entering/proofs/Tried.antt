-- A task on a processor: refused by the rules, refused by the test of its set, or the state to go on from. Assumes nothing.
use mathlib.Core.Path.{◌≡◌, refl, sym, ap, subst, fun_ext, ◌∙◌}
use mathlib.Core.Bool.{Bool, true, false, ◌&&◌, ◌||◌}
use mathlib.Core.List.{List}
use Rattle.std.proofs.Common.{Option, Some, None}
use Rattle.std.specs.Prelude.{IfSome}
use Prim.Native.Nat.{ℕ}
use native.Mathlib.Decide.{ℕ_discrete}
use borrow.Author.Tests.{ne_eqb}
use lib.Dec.{eqb}
use lib.ListN.{get_or}
use Rattle.mask.specs.Mask.{has, Subset}
use Rattle.table.specs.declared.Table.{Table}
use Rattle.table.specs.Sound.{Sound}
use Rattle.rules.specs.Placement.{and_task}
use Rattle.rules.specs.Sets.{standing}
use Rattle.timing.specs.Timing.{tasks_in}
use Rattle.timing.proofs.Limits.{valid_tasks, constrained_tasks}
use Rattle.nogoods.specs.declared.Mode.{Mode}
use Rattle.nogoods.specs.declared.Tested.{Tested}
use Rattle.nogoods.specs.Nogoods.{Bad, Clear, Verdict, Noted}
use Rattle.nogoods.proofs.Growth.{extended_refl, extended_map}
use Rattle.nogoods.proofs.Verdicts.{bad_more, clear_grows}
use Rattle.partial.specs.declared.State.{State}
use Rattle.partial.specs.declared.Sizes.{Sizes}
use Rattle.partial.specs.Partial.{site_of, Stepped, StepOf}
use Rattle.partial.specs.Tests.{trial_of, step_after, step_of}
use Rattle.region.specs.Region.{Within, Refuted, Met}
use Rattle.region.proofs.Refuting.{refuted_broken, refuted_set, met_here}
use Rattle.region.specs.Begins.{Stands, Begins, with_may}
use Rattle.region.specs.Lends.{Lends}
use Rattle.region.proofs.Narrowing.{fits_may, stepped_may}
use Rattle.narrowing.specs.Narrowing.{refreshed_of}
use Rattle.narrowing.proofs.Keeping.{refreshed_narrowed}
use Rattle.entering.specs.declared.Entered.{Entered}
use Rattle.entering.specs.Entering.{EntersAs, AdmittedAs, EnteredAs}
use Rattle.schedule.specs.declared.Timing.{Timing}
use Rattle.rows.specs.declared.Rows.{Rows}
use Rattle.rows.specs.declared.Messages.{Messages}

-- the set of a processor other than p
other_set : (on : ℕ → ℕ → Bool) (k p r : ℕ) → (r ≡ p → ⊥) → (j : ℕ) → and_task on k p j r ≡ on j r
other_set on k p r f j = go (eqb j k)
  where
    go : (b : Bool) → ((b && eqb r p) || on j r) ≡ on j r
    go true = ap (λ (c : Bool). c || on j r) (ne_eqb r p f)
    go false = refl

module _ {t : Table} (h : Sound t) {mode : Mode} {s : State} {old : List ℕ} {count : ℕ} (b : Stands t mode s old count) (k p : ℕ) where
  -- a step leaves what may stand on each processor as it was
  pub step_may : (rows : Rows) (links : Messages) (sizes : Sizes) {next : State} → Some next ≡ step_of rows links sizes s k p → next.may ≡ s.may
  step_may rows links sizes {next} e = subst (λ (r : Option State). IfSome r (λ n. n.may ≡ s.may)) (sym e) (go (trial_of rows links sizes (site_of s p) k p))
    where
      go : (r : Option ℕ) → IfSome (step_after s k p (get_or rows.memory k 0) (get_or rows.load k 0) r) (λ n. n.may ≡ s.may)
      go None = tt
      go (Some added) = refl

  -- the rules do not allow it
  pub enter_broken : StepOf t s k p None → AdmittedAs t mode s k p old count old (record { next = None; count = count })
  enter_broken f = record {
    tested = record { list = extended_refl b.nogoods; answer = refuted_broken t (Bad (tasks_in t) mode.listing old count) (and_task (standing s.on) k p) f };
    same_may = tt;
  }

  -- they do, and the set was tested
  module _ {next : State} (step : Stepped t s k p next) {new : List ℕ} (r : Tested) (noted : Noted (tasks_in t) mode (get_or next.on p 0) old count new r) where
    met : (c : ℕ) → Subset c (get_or next.on p 0) → Met t (Within (and_task (standing s.on) k p)) c
    met c f = subst (λ (on : ℕ → ℕ → Bool). Met t (Within on) c) step.on (met_here h step.fits.partial step.fits.keeps p f)

    refuted : Bad (tasks_in t) mode.listing new r.count (has (get_or next.on p 0)) → Refuted t (Bad (tasks_in t) mode.listing new r.count) (Within (and_task (standing s.on) k p))
    refuted v =
        refuted_set t (Bad (tasks_in t) mode.listing new r.count) (and_task (standing s.on) k p) p (bad_more (valid_tasks h) (constrained_tasks h) mode.listing new r.count)
        (subst (λ (on : ℕ → ℕ → Bool). Bad (tasks_in t) mode.listing new r.count (λ j. on j p)) step.on v)

    clear : Clear (tasks_in t) mode.listing new r.count (has (get_or next.on p 0)) → (q : ℕ) → Dec (q ≡ p) → Clear (tasks_in t) mode.listing new r.count (has (get_or next.on q 0))
    clear v q (yes e) = subst (λ (x : ℕ). Clear (tasks_in t) mode.listing new r.count (has (get_or next.on x 0))) (sym e) v
    clear v q (no f) =
        subst (Clear (tasks_in t) mode.listing new r.count)
        (sym (fun_ext (λ j. ap (λ (on : ℕ → ℕ → Bool). on j q) step.on ∙ other_set (standing s.on) k p q f j)))
        (clear_grows mode.listing (has (get_or s.on q 0)) noted.list (b.clear q))

    -- its set is bad
    pub enter_bad : r.bad ≡ true → AdmittedAs t mode s k p old count new (record { next = None; count = r.count })
    enter_bad e = record {
      tested = record {
        list = extended_map met noted.list;
        answer = refuted (subst (λ (x : Bool). Verdict x (tasks_in t) mode.listing new r.count (has (get_or next.on p 0))) e noted.verdict);
      };
      same_may = tt;
    }

    -- it is not
    pub enter_clear : r.bad ≡ false → next.may ≡ s.may → AdmittedAs t mode s k p old count new (record { next = Some next; count = r.count })
    enter_clear e same =
        let v = subst (λ (x : Bool). Verdict x (tasks_in t) mode.listing new r.count (has (get_or next.on p 0))) e noted.verdict in
        record {
          tested = record {
            list = extended_map met noted.list;
            answer = (step, record { fits = step.fits; nogoods = noted.list.nogoods; clear = λ q. clear v q (ℕ_discrete q p) });
          };
          same_may = same;
        }

-- what may then stand on each processor
module _ {t : Table} {mode : Mode} {s : State} {k p : ℕ} {old new : List ℕ} {before : ℕ} (r : Entered) (w : AdmittedAs t mode s k p old before new r) where
  answered_as : (o : Option State) → r.next ≡ o → EntersAs (λ n. Stands t mode n new r.count) t mode s k p new r.count o × IfSome o (λ n. n.may ≡ s.may)
  answered_as o e = subst (λ (x : Option State). EntersAs (λ n. Stands t mode n new r.count) t mode s k p new r.count x × IfSome x (λ n. n.may ≡ s.may)) e (w.tested.answer, w.same_may)

  pub entered_closed : r.next ≡ None → EnteredAs t mode s k p old before new r
  entered_closed e = record {
    list = w.tested.list;
    answer = subst (EntersAs (λ n. Begins t mode n new r.count) t mode s k p new r.count) (sym e) (answered_as None e).0;
  }

  module _ {next : State} (e : r.next ≡ Some next) where
    pub entered_stands : Stands t mode next new r.count
    entered_stands = (answered_as (Some next) e).0.1

    pub entered_open : {sizes : Sizes} {timing : Timing} {rows : Rows} {links : Messages} → Lends t sizes timing rows links → Begins t mode s old before
        → {may : List ℕ} → may ≡ refreshed_of timing rows links sizes next k p mode new r.count
        → EnteredAs t mode s k p old before new (record { next = Some (with_may next may); count = r.count })
    entered_open l b {may} i =
        let a = answered_as (Some next) e in
        record {
          list = w.tested.list;
          answer = (
            stepped_may may a.0.0,
            record {
              fits = fits_may may a.0.1.fits;
              nogoods = a.0.1.nogoods;
              clear = a.0.1.clear;
              narrowed = λ f. rw i (refreshed_narrowed l new r.count (b.narrowed f) a.0.0 a.1 mode f);
            },
          );
        }
