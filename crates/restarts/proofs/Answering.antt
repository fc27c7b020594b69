-- What the answer of one search says of its region. Assumes nothing.
use mathlib.Core.Path.{◌≡◌, refl, subst}
use mathlib.Core.Bool.{Bool, true, false, true≢false, false≢true}
use mathlib.Core.List.{List}
use Prim.Native.Nat.{ℕ, ◌≤◌}
use lib.ListN.{length}
use Rattle.std.specs.Prelude.{Option, None}
use Rattle.table.specs.declared.Table.{Table}
use Rattle.rules.specs.Sets.{standing}
use Rattle.timing.specs.Timing.{tasks_in}
use Rattle.nogoods.specs.Nogoods.{quiet, lists, Bad}
use Rattle.nogoods.proofs.Append.{nogoods_start}
use Rattle.nogoods.proofs.Growth.{extended_trans}
use Rattle.nogoods.proofs.Verdicts.{clear_grows}
use Rattle.partial.specs.declared.Sizes.{Sizes}
use Rattle.partial.specs.declared.State.{State}
use Rattle.region.specs.Region.{Within, Refuted}
use Rattle.region.specs.Lends.{Lends}
use Rattle.region.specs.Begins.{with_may, Stands, Begins, Opens, Ready, Prepared}
use Rattle.region.proofs.Narrowing.{fits_may}
use Rattle.narrowing.specs.Narrowing.{prepared_of}
use Rattle.narrowing.proofs.Keeping.{prepared_narrowed, narrowed_choices}
use Rattle.late_sets.specs.declared.Covering.{Covering}
use Rattle.late_sets.specs.LateSets.{CoversAs}
use Rattle.capacity_bound.specs.CapacityBound.{Weighable}
use Rattle.backtrack.specs.declared.Backtracked.{Backtracked}
use Rattle.backtrack.specs.declared.Outcome.{Outcome}
use Rattle.backtrack.specs.declared.Outcome.TheVariants.{Found, Nothing, GaveUp}
use Rattle.backtrack.specs.Backtrack.{EndsAs, BacktrackedIn}
use Rattle.restarts.specs.declared.Listed.{Listed}
use Rattle.restarts.specs.Restarts.{AttemptedAs, NoneGood, DecidedAs, CutAs, CoveringAs}
use Rattle.schedule.specs.declared.Timing.{Timing}
use Rattle.rows.specs.declared.Rows.{Rows}
use Rattle.rows.specs.declared.Messages.{Messages}

-- a list without room
pub ready_stands : {t : Table} {limited : Bool} {s : State} {list : List ℕ} → 3 ≤ length list → Ready t s → Stands t (quiet limited) s list 0
ready_stands l w = record { fits = w.fits; nogoods = nogoods_start l; clear = w.in_time }

pub prepared_begins : {t : Table} {limited : Bool} {s : State} {list : List ℕ} → 3 ≤ length list → Prepared t s → Begins t (quiet limited) s list 0
prepared_begins l w = record { fits = w.fits; nogoods = nogoods_start l; clear = w.in_time; narrowed = λ e. w.narrowed }

-- a state whose tasks that may stand on each processor are worked out
module _ {t : Table} {sizes : Sizes} {timing : Timing} {rows : Rows} {links : Messages} (l : Lends t sizes timing rows links) {s : State} (list : List ℕ) (count : ℕ) {begin : State} where
  pub ready_prepared : (limited : Bool) → Ready t s → begin ≡ with_may s (prepared_of timing rows links sizes s (quiet limited) list count) → Prepared t begin
  ready_prepared limited w e = rw e (record { fits = fits_may _ w.fits; in_time = w.in_time; narrowed = prepared_narrowed l list count w.fits limited })

pub begins_listing : {t : Table} {s begin : State} (may : List ℕ) {list : List ℕ} {count : ℕ} → Begins t lists s list count → begin ≡ with_may s may → Begins t lists begin list count
begins_listing may b e = rw e (record { fits = fits_may may b.fits; nogoods = b.nogoods; clear = b.clear; narrowed = λ f. absurd (true≢false f) })

-- what is known of the region below it
pub decided_begin : (t : Table) (s : State) (may : List ℕ) {begin : State} → begin ≡ with_may s may → (d : Option (List ℕ)) → DecidedAs t (standing begin.on) d → DecidedAs t (standing s.on) d
decided_begin t s may e d = subst (λ (x : State). DecidedAs t (standing x.on) d) e

pub covering_begin : {t : Table} (s : State) (may : List ℕ) {begin : State} → begin ≡ with_may s may → {old : List ℕ} {before : ℕ} {new : List ℕ} (r : Listed)
    → CoveringAs t (standing begin.on) old before new r → CoveringAs t (standing s.on) old before new r
covering_begin {t} s may e {old} {before} {new} r = subst (λ (x : State). CoveringAs t (standing x.on) old before new r) e

-- the candidates at the root of a decision
pub prepared_weighable : {t : Table} {s : State} {list : List ℕ} → 3 ≤ length list → Prepared t s → Weighable t (quiet false) s s.may list 0
prepared_weighable l w = record { fits = w.fits; nogoods = nogoods_start l; choices = narrowed_choices w.narrowed }

-- a run to its end
pub attempted : {t : Table} {limited : Bool} {on : ℕ → ℕ → Bool} {old new : List ℕ} (r : Backtracked) → BacktrackedIn t (quiet limited) on old 0 new r → AttemptedAs t limited on r.outcome
attempted {t} {limited} {on} {new = new} r x = go r.outcome x.answer
  where
    go : (o : Outcome) → EndsAs (λ list count. Refuted t (Bad (tasks_in t) false list count) (Within on)) t (quiet limited) on new r.count o → AttemptedAs t limited on o
    go (Found sets) u = u
    go Nothing u = u
    go GaveUp u = u

-- the last run, which does not give up
pub decided_last : (t : Table) (on : ℕ → ℕ → Bool) (o : Outcome) → AttemptedAs t false on o → ((sets : List ℕ) → o ≡ Found sets → ⊥) → DecidedAs t on None
decided_last t on (Found sets) x f = absurd (f sets refl)
decided_last t on Nothing x f = x
decided_last t on GaveUp x f = absurd (false≢true x)

-- a replay, which does not give up
module _ {t : Table} {on : ℕ → ℕ → Bool} {old : List ℕ} {before : ℕ} {new : List ℕ} (r : Backtracked) (x : BacktrackedIn t lists on old before new r) where
  pub covering_cut : {sets : List ℕ} → r.outcome ≡ Found sets → CoveringAs t on old before new (record { cut = true; count = r.count })
  covering_cut {sets} e = record { list = x.list; mark = (sets, subst (EndsAs (λ list count. Refuted t (Bad (tasks_in t) true list count) (Within on)) t lists on new r.count) e x.answer) }

  pub covering_complete : ((sets : List ℕ) → r.outcome ≡ Found sets → ⊥) → CoveringAs t on old before new (record { cut = false; count = r.count })
  covering_complete f = record { list = x.list; mark = go r.outcome f x.answer }
    where
      go : (o : Outcome) → ((sets : List ℕ) → o ≡ Found sets → ⊥) → EndsAs (λ list count. Refuted t (Bad (tasks_in t) true list count) (Within on)) t lists on new r.count o → CutAs false t on new r.count
      go (Found sets) f u = absurd (f sets refl)
      go Nothing f u = u
      go GaveUp f u = absurd (false≢true u)

-- the list of a state whose sets may all stand
pub opens : {t : Table} {s : State} {list : List ℕ} {count : ℕ} → Begins t lists s list count → Opens t s list count
opens b = record { fits = b.fits; nogoods = b.nogoods }

-- every late set that could stand holds a listed conflict: so does every placement of the region, which has one
pub covering_late_sets : {t : Table} {s : State} {old : List ℕ} {before : ℕ} {new : List ℕ} (r : Covering) → NoneGood t (standing s.on) → CoversAs t s (λ x. Unit {0}) old before new r → r.complete ≡ true
    → CoveringAs t (standing s.on) old before new (record { cut = false; count = r.count })
covering_late_sets r none x e = record {
  list = x.list;
  mark = λ q w part keeps. let late = none q w part keeps in (late.0, x.covers e q (record { whole = w; inside = part; keeps = keeps }) late.0 tt late.1);
}

-- a replay goes on from the list as it is then
pub begins_after : {t : Table} {s : State} {K : (ℕ → Bool) → Type 0} {old : List ℕ} {before : ℕ} {new : List ℕ} {r : Covering} → Begins t lists s old before → CoversAs t s K old before new r → Begins t lists s new r.count
begins_after b x = record { fits = b.fits; nogoods = x.list.nogoods; clear = λ p. clear_grows true _ x.list (b.clear p); narrowed = λ f. absurd (true≢false f) }

pub covering_then : {t : Table} {s : State} {K : (ℕ → Bool) → Type 0} {old : List ℕ} {before : ℕ} {mid : List ℕ} {c : Covering} {new : List ℕ} {r : Listed}
    → CoversAs t s K old before mid c → CoveringAs t (standing s.on) mid c.count new r → CoveringAs t (standing s.on) old before new r
covering_then x y = record { list = extended_trans x.list y.list; mark = y.mark }
