-- The region of a task on a processor: entered, then decided or covered. Assumes nothing.
use mathlib.Core.Path.{◌≡◌, sym, subst}
use mathlib.Core.Bool.{Bool, false}
use mathlib.Core.List.{List}
use Rattle.std.proofs.Common.{Option, Some, None}
use Prim.Native.Nat.{ℕ}
use Rattle.std.specs.Prelude.{Option}
use Rattle.table.specs.declared.Table.{Table}
use Rattle.schedule.specs.Periodic.{LateSet}
use Rattle.rules.specs.Placement.{and_task}
use Rattle.rules.specs.Sets.{standing}
use Rattle.timing.specs.Timing.{tasks_in}
use Rattle.nogoods.specs.Nogoods.{quiet, lists}
use Rattle.nogoods.proofs.Growth.{extended_trans}
use Rattle.partial.specs.declared.State.{State}
use Rattle.region.specs.Region.{Within, Refuted}
use Rattle.region.specs.Begins.{Stands, Begins, Ready}
use Rattle.region.proofs.Narrowing.{stands_lists}
use Rattle.entering.specs.declared.Entered.{Entered}
use Rattle.entering.specs.Entering.{EntersAs, AdmittedAs}
use Rattle.restarts.specs.declared.Listed.{Listed}
use Rattle.restarts.specs.Restarts.{NoneGood, DecidedAs, CoveringAs}

module _ {t : Table} {s : State} {k p : ℕ} {old mid : List ℕ} {before : ℕ} (e : Entered) where
  -- in the way that decides
  module _ {limited : Bool} (w : AdmittedAs t (quiet limited) s k p old before mid e) where
    entered : (o : Option State) → e.next ≡ o → EntersAs (λ n. Stands t (quiet limited) n mid e.count) t (quiet limited) s k p mid e.count o
    entered o f = subst (EntersAs (λ n. Stands t (quiet limited) n mid e.count) t (quiet limited) s k p mid e.count) f w.tested.answer

    pub decided_closed : e.next ≡ None → Refuted t (LateSet (tasks_in t)) (Within (and_task (standing s.on) k p))
    decided_closed f = entered None f

    module _ {next : State} (f : e.next ≡ Some next) where
      pub entered_ready : Ready t next
      entered_ready = let b = (entered (Some next) f).1 in record { fits = b.fits; in_time = b.clear }

      pub decided_open : (d : Option (List ℕ)) → DecidedAs t (standing next.on) d → DecidedAs t (and_task (standing s.on) k p) d
      decided_open d = subst (λ (on : ℕ → ℕ → Bool). DecidedAs t on d) (entered (Some next) f).0.on

  -- in the way that lists
  module _ (w : AdmittedAs t lists s k p old before mid e) where
    listed : (o : Option State) → e.next ≡ o → EntersAs (λ n. Stands t lists n mid e.count) t lists s k p mid e.count o
    listed o f = subst (EntersAs (λ n. Stands t lists n mid e.count) t lists s k p mid e.count) f w.tested.answer

    pub covering_closed : e.next ≡ None → CoveringAs t (and_task (standing s.on) k p) old before mid (record { cut = false; count = e.count })
    covering_closed f = record { list = w.tested.list; mark = listed None f }

    module _ {next : State} (f : e.next ≡ Some next) where
      pub entered_begins : Begins t lists next mid e.count
      entered_begins = stands_lists (listed (Some next) f).1

      pub entered_none : NoneGood t (and_task (standing s.on) k p) → NoneGood t (standing next.on)
      entered_none none = subst (λ (on : ℕ → ℕ → Bool). NoneGood t on) (sym (listed (Some next) f).0.on) none

      pub covering_open : {new : List ℕ} (r : Listed) → CoveringAs t (standing next.on) mid e.count new r → CoveringAs t (and_task (standing s.on) k p) old before new r
      covering_open {new} r x =
          let y = subst (λ (on : ℕ → ℕ → Bool). CoveringAs t on mid e.count new r) (listed (Some next) f).0.on x in
          record { list = extended_trans w.tested.list y.list; mark = y.mark }
