-- The bound by the network, and after the candidates. Assumes nothing.
use mathlib.Core.Path.{◌≡◌, sym, subst, ◌∙◌}
use mathlib.Core.Bool.{Bool, true, false, true≢false, false≢true}
use mathlib.Core.List.{List}
use Prim.Native.Nat.{ℕ, ◌<◌}
use native.Mathlib.Omega.{arith}
use Rattle.table.specs.declared.Table.{Table}
use Rattle.table.specs.Sound.{Sound}
use Rattle.timing.specs.Timing.{tasks_in}
use Rattle.rows.specs.Rows.{exclusions_of, messages_of}
use Rattle.nogoods.specs.declared.Mode.{Mode}
use Rattle.nogoods.specs.Nogoods.{Bad, quiet}
use Rattle.nogoods.proofs.Growth.{extended_refl, extended_trans}
use Rattle.partial.specs.declared.State.{State}
use Rattle.region.specs.Begins.{Begins, Opens}
use Rattle.candidates.specs.declared.Candidates.{Candidates}
use Rattle.candidates.specs.Candidates.{Choices, CandidatesAs}
use Rattle.candidates.proofs.Fairness.{refuted_fair}
use Rattle.narrowing.proofs.Keeping.{narrowed_choices}
use Rattle.network_bound.specs.NetworkBound.{crossing_of}
use Rattle.network_bound.proofs.Network.{crossing_fits}
use Rattle.capacity_bound.specs.declared.Bounded.{Bounded}
use Rattle.capacity_bound.specs.Bound.{BoundedAs}
use Rattle.capacity_bound.specs.CapacityBound.{Weighable}

-- the candidates are there
pub candidates_weighable : {t : Table} {mode : Mode} {s : State} {old mid : List ℕ} {before : ℕ} → Opens t s old before → (a : Candidates) → CandidatesAs t mode s old before mid a
    → Weighable t mode s a.sets mid a.count
candidates_weighable o a u = record { fits = o.fits; nogoods = u.list.nogoods; choices = u.choices }

-- the network carries less than must cross it
pub bounded_network : {t : Table} {mode : Mode} {s : State} (sets : List ℕ) {list : List ℕ} {count remote : ℕ} → Sound t → Weighable t mode s sets list count
    → remote ≡ crossing_of (exclusions_of t) (messages_of t) t.messages.count s sets t.processors.count → s.traffic < remote
    → BoundedAs t mode s list count list (record { hopeless = true; count = count })
bounded_network {t} {mode} {s} sets {list} {count} h w e low = record {
  list = extended_refl w.nogoods;
  answer = λ o. refuted_fair h mode.listing list count {s = s} (λ q fair. omega (arith, crossing_fits sets h w.fits w.choices fair));
}

-- after the candidates
pub bounded_from : {t : Table} {mode : Mode} {s : State} {old mid new : List ℕ} {before : ℕ} (a : Candidates) (b : Bounded) → CandidatesAs t mode s old before mid a
    → BoundedAs t mode s mid a.count new b → BoundedAs t mode s old before new b
bounded_from a b u v = record { list = extended_trans u.list v.list; answer = v.answer }

-- without listing: it is right where it does not give the region up
pub bounded_first : {t : Table} (mode : Mode) {s : State} {old new : List ℕ} {before : ℕ} (a : Bounded) → BoundedAs t (quiet mode.limited) s old before new a → a.hopeless ≡ false
    → BoundedAs t mode s old before new a
bounded_first mode a u e = record { list = u.list; answer = λ h. absurd (true≢false (sym h ∙ e)) }

-- a bound that does not give the region up
pub bounded_open : {t : Table} {mode : Mode} {s : State} {old new : List ℕ} {before : ℕ} (a : Bounded) → BoundedAs t mode s old before new a
    → BoundedAs t mode s old before new (record { hopeless = false; count = a.count })
bounded_open a u = record { list = u.list; answer = λ e. absurd (false≢true e) }

-- where nothing is listed, the candidates are those that the state keeps
pub narrowed_weighable : {t : Table} (mode : Mode) {s : State} {list : List ℕ} {count : ℕ} → Begins t mode s list count → mode.listing ≡ false → Weighable t mode s s.may list count
narrowed_weighable {t} mode {s} {list} {count} b e = record {
  fits = b.fits;
  nogoods = b.nogoods;
  choices = subst (λ (x : Bool). Choices t s (Bad (tasks_in t) x list count) s.may) (sym e) (narrowed_choices (b.narrowed e));
}
