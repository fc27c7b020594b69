-- A region below a task on a processor, and the loop over the processors. Assumes nothing.
use mathlib.Core.Path.{◌≡◌, refl, sym, subst}
use mathlib.Core.Logic.{◌⊎◌, inl, inr, ⊎_elim}
use mathlib.Core.Bool.{Bool, true, false}
use mathlib.Core.List.{List}
use Rattle.std.proofs.Common.{Option, Some, None}
use Prim.Native.Nat.{ℕ, zero, suc, ◌+◌, ◌^◌, ◌≤◌, ◌<◌}
use native.Mathlib.Decide.{ℕ_discrete, dec_le}
use native.Mathlib.Omega.{arith}
use lib.Dec.{T, ltb→lt}
use lib.ListN.{get_or}
use Rattle.mask.specs.Mask.{has, below}
use Rattle.mask.proofs.Laws.{remove_lt, has_below}
use Rattle.table.specs.declared.Table.{Table}
use Rattle.table.specs.Sound.{Sound}
use Rattle.rules.specs.Placement.{and_task}
use Rattle.rules.specs.Sets.{standing}
use Rattle.timing.specs.Timing.{tasks_in}
use Rattle.nogoods.specs.declared.Mode.{Mode}
use Rattle.nogoods.specs.Nogoods.{Extended, Bad}
use Rattle.nogoods.proofs.Growth.{extended_refl, extended_trans, extended_map}
use Rattle.nogoods.proofs.Verdicts.{bad_grows, clear_grows}
use Rattle.partial.specs.declared.State.{State}
use Rattle.partial.specs.Partial.{Fits}
use Rattle.region.specs.Region.{Within, Refuted, Met}
use Rattle.region.specs.Begins.{Begins}
use Rattle.region.proofs.Refuting.{and_part, branch, refuted_map, met_map, witness_map, witness_end}
use Rattle.symmetry.specs.Symmetry.{Representative}
use Rattle.symmetry.proofs.Swap.{swap_refuted}
use Rattle.capacity_bound.specs.declared.Bounded.{Bounded}
use Rattle.capacity_bound.specs.Bound.{BoundedAs}
use Rattle.entering.specs.declared.Entered.{Entered}
use Rattle.heuristics.specs.declared.Heuristics.{Heuristics}
use Rattle.branching.specs.Branching.{pick_of}
use Rattle.branching.proofs.Picking.{picked_open}
use Rattle.backtrack.specs.declared.Backtracked.{Backtracked}
use Rattle.backtrack.specs.declared.Outcome.{Outcome}
use Rattle.backtrack.specs.declared.Outcome.TheVariants.{Found, Nothing, GaveUp}
use Rattle.entering.specs.Entering.{EntersAs, EnteredAs}
use Rattle.backtrack.specs.Backtrack.{EndsAs, BacktrackedIn, Passed, ExploredAs}

module _ {t : Table} {mode : Mode} {s : State} {list : List ℕ} {count : ℕ} (b : Begins t mode s list count) where
  -- the search gives up
  pub backtracked_neither : mode.limited ≡ true → BacktrackedIn t mode (standing s.on) list count list (record { outcome = GaveUp; count = count })
  backtracked_neither e = record { list = extended_refl b.nogoods; answer = e }

  -- no task is open
  pub backtracked_end : s.left ≡ 0 → BacktrackedIn t mode (standing s.on) list count list (record { outcome = Found s.on; count = count })
  backtracked_end e = record { list = extended_refl b.nogoods; answer = witness_end b.fits e b.clear }

-- what a bound leaves
module _ {t : Table} {mode : Mode} {s : State} {old mid : List ℕ} {before : ℕ} (r : Bounded) (w : BoundedAs t mode s old before mid r) where
  pub bounded_begins : Begins t mode s old before → Begins t mode s mid r.count
  bounded_begins b = record { fits = b.fits; nogoods = w.list.nogoods; clear = λ q. clear_grows mode.listing (has (get_or s.on q 0)) w.list (b.clear q); narrowed = b.narrowed }

  pub bounded_hopeless : r.hopeless ≡ true → BacktrackedIn t mode (standing s.on) old before mid (record { outcome = Nothing; count = r.count })
  bounded_hopeless e = record { list = w.list; answer = w.answer e }

  pub bounded_then : {new : List ℕ} (x : Backtracked) → BacktrackedIn t mode (standing s.on) mid r.count new x → BacktrackedIn t mode (standing s.on) old before new x
  bounded_then x y = record { list = extended_trans w.list y.list; answer = y.answer }

-- an open task is one of 24
module _ {t : Table} (h : Sound t) {s : State} (fits : Fits t s) where
  pub open_low : (k : ℕ) → T (has s.left k) → k < 24
  open_low k waits = omega (arith, (fits.open_task k waits).0, h.tasks.most)

  pub open_below : T (below 24 s.left)
  open_below = has_below 24 s.left open_low

  -- the task that is picked is open
  pub picked_waits : (base may : List ℕ) (processors : ℕ) (heuristics : Heuristics) {k : ℕ} → k ≡ (pick_of base processors s.left may heuristics).task → 0 < s.left → T (has s.left k)
  picked_waits base may processors heuristics e some = rw e (picked_open base may processors s.left heuristics some (omega (arith, ltb→lt s.left (2 ^ 24) open_below)))

-- where nothing is listed, the task may not stand there
pub explored_narrowed : {t : Table} {mode : Mode} {s : State} (k : ℕ) {p : ℕ} {list : List ℕ} {count : ℕ} → Begins t mode s list count → mode.listing ≡ false → T (has s.left k)
    → p < t.processors.count → (T (has (get_or s.may p 0) k) → ⊥) → ExploredAs t mode s k p list count list (record { outcome = Nothing; count = count })
explored_narrowed {t} {mode} {s} k {p} {list} {count} b quiet waits low out = record {
  list = extended_refl b.nogoods;
  answer = inl (subst (λ (x : Bool). Refuted t (Bad (tasks_in t) x list count) (Within (and_task (standing s.on) k p))) (sym quiet) ((b.narrowed quiet p low).others k waits out));
}

-- a lower processor can stand in for p
pub explored_symmetric : {t : Table} {mode : Mode} {s : State} (k : ℕ) {p q : ℕ} {list : List ℕ} {count : ℕ} → Begins t mode s list count → Representative t s p q → (q ≡ p → ⊥)
    → ExploredAs t mode s k p list count list (record { outcome = Nothing; count = count })
explored_symmetric k {p} {q} b w f =
    let l : q < p = omega (arith, w.upto, f) in
    record { list = extended_refl b.nogoods; answer = inr (q, l, w.interchangeable l) }

-- the region below task k on processor p
module _ {t : Table} {mode : Mode} {s : State} {k p : ℕ} {old mid : List ℕ} {before : ℕ} (e : Entered) (w : EnteredAs t mode s k p old before mid e) where
  answered : (o : Option State) → e.next ≡ o → EntersAs (λ n. Begins t mode n mid e.count) t mode s k p mid e.count o
  answered o f = subst (EntersAs (λ n. Begins t mode n mid e.count) t mode s k p mid e.count) f w.answer

  pub explored_closed : e.next ≡ None → ExploredAs t mode s k p old before mid (record { outcome = Nothing; count = e.count })
  explored_closed f = record { list = w.list; answer = inl (answered None f) }

  module _ {next : State} (f : e.next ≡ Some next) where
    pub explored_begins : Begins t mode next mid e.count
    explored_begins = (answered (Some next) f).1

    pub explored_falls : T (has s.left k) → next.left < s.left
    explored_falls u = rw (answered (Some next) f).0.left (remove_lt s.left k u)

    pub explored_open : {new : List ℕ} (r : Backtracked) → BacktrackedIn t mode (standing next.on) mid e.count new r → ExploredAs t mode s k p old before new r
    explored_open {new} r x =
        let y = subst (λ (on : ℕ → ℕ → Bool). BacktrackedIn t mode on mid e.count new r) (answered (Some next) f).0.on x in
        record { list = extended_trans w.list y.list; answer = below r.outcome y.answer }
      where
        below : (o : Outcome) → EndsAs (λ list count. Refuted t (Bad (tasks_in t) mode.listing list count) (Within (and_task (standing s.on) k p))) t mode (and_task (standing s.on) k p) new r.count o
            → EndsAs (Passed t mode s k p) t mode (and_task (standing s.on) k p) new r.count o
        below (Found sets) u = u
        below Nothing u = inl u
        below GaveUp u = u

-- processor q is one of the i from the first on, around all m
abbrev pub Behind : ℕ → ℕ → ℕ → ℕ → Type 0
Behind first m i q = ((first ≤ q) × (q < first + i)) ⊎ (q + m < first + i)

-- the processor after them
behind_next : (first m i p q : ℕ) → p < m → (p ≡ first + i) ⊎ (p + m ≡ first + i) → q < m → (q ≡ p → ⊥) → Behind first m (i + 1) q → Behind first m i q
behind_next first m i p q l (inl e) n f (inl (u, v)) = inl (u, omega arith)
behind_next first m i p q l (inl e) n f (inr u) = inr (omega arith)
behind_next first m i p q l (inr e) n f (inl (u, v)) = inl (u, omega arith)
behind_next first m i p q l (inr e) n f (inr u) = inr (omega arith)

behind_all : (first m i q : ℕ) → q < m → m ≤ i → Dec (first ≤ q) → Behind first m i q
behind_all first m i q l n (yes u) = inl (u, omega arith)
behind_all first m i q l n (no u) = inr (omega arith)

-- the loop over the processors: those behind are passed over, by the list as it is now
pub record Backtracking (t : Table) (mode : Mode) (s : State) (k : ℕ) (old : List ℕ) (before first m i : ℕ) (new : List ℕ) (at : ℕ) : Type 0 where
  pub list : Extended (Met t (Within (standing s.on))) (tasks_in t) old before new at
  pub passed : (q : ℕ) → q < m → Behind first m i q → Passed t mode s k q new at

pub backtracking_start : {t : Table} {mode : Mode} {s : State} {list : List ℕ} {count : ℕ} → Begins t mode s list count → (k first m : ℕ) → first < m → Backtracking t mode s k list count first m 0 list count
backtracking_start b k first m n = record { list = extended_refl b.nogoods; passed = λ q l u. absurd (⊎_elim (λ v. omega (arith, v.0, v.1)) (λ v. omega (arith, v, n)) u) }

module _ {t : Table} {mode : Mode} {s : State} {k : ℕ} {old : List ℕ} {before first m i : ℕ} {list : List ℕ} {at : ℕ} (w : Backtracking t mode s k old before first m i list at) where
  pub backtracking_begins : Begins t mode s old before → Begins t mode s list at
  backtracking_begins b = record { fits = b.fits; nogoods = w.list.nogoods; clear = λ q. clear_grows mode.listing (has (get_or s.on q 0)) w.list (b.clear q); narrowed = b.narrowed }

  -- what processor p gives
  module _ {p : ℕ} {new : List ℕ} (r : Backtracked) (x : ExploredAs t mode s k p list at new r) where
    grown : Extended (Met t (Within (standing s.on))) (tasks_in t) old before new r.count
    grown = extended_trans w.list (extended_map (λ c. met_map (λ q i u. λ j y v. u j y (and_part (standing s.on) k p j y v))) x.list)

    pub backtracking_stop : (r.outcome ≡ Nothing → ⊥) → BacktrackedIn t mode (standing s.on) old before new r
    backtracking_stop e = record { list = grown; answer = go r.outcome e x.answer }
      where
        go : (o : Outcome) → (o ≡ Nothing → ⊥) → EndsAs (Passed t mode s k p) t mode (and_task (standing s.on) k p) new r.count o
            → EndsAs (λ list count. Refuted t (Bad (tasks_in t) mode.listing list count) (Within (standing s.on))) t mode (standing s.on) new r.count o
        go (Found sets) f u = witness_map (and_part (standing s.on) k p) (λ y c. c) u
        go Nothing f u = absurd (f refl)
        go GaveUp f u = u

    -- what was passed over by the list before is so by the list now
    passed_still : (q : ℕ) → Passed t mode s k q list at → Passed t mode s k q new r.count
    passed_still q =
        ⊎_elim
        (λ u. inl
        (refuted_map t (Bad (tasks_in t) mode.listing list at) (Bad (tasks_in t) mode.listing new r.count) (Within (and_task (standing s.on) k q)) (Within (and_task (standing s.on) k q))
        (λ y. bad_grows (tasks_in t) mode.listing y x.list.grows) (λ z i v. v) u))
        (λ u. inr u)

    pub backtracking_next : p < m → (p ≡ first + i) ⊎ (p + m ≡ first + i) → r.outcome ≡ Nothing → Backtracking t mode s k old before first m (i + 1) new r.count
    backtracking_next l a e = record { list = grown; passed = λ q n u. go q n u (ℕ_discrete q p) }
      where
        go : (q : ℕ) → q < m → Behind first m (i + 1) q → Dec (q ≡ p) → Passed t mode s k q new r.count
        go q n u (yes f) = subst (λ (y : ℕ). Passed t mode s k y new r.count) (sym f) (subst (EndsAs (Passed t mode s k p) t mode (and_task (standing s.on) k p) new r.count) e x.answer)
        go q n u (no f) = passed_still q (w.passed q n (behind_next first m i p q l a n f u))

  -- every processor is passed over: so no placement may stand on the lowest, and on each that a lower one can stand in for
  module _ (fits : Fits t s) (n : m ≤ i) where
    refuted : (b q : ℕ) → q < b → q < m → Refuted t (Bad (tasks_in t) mode.listing list at) (Within (and_task (standing s.on) k q))
    refuted zero q l u = absurd (omega arith)
    refuted (suc b) q l u =
        ⊎_elim
        (λ v. v)
        (λ v. swap_refuted fits v.2 (Bad (tasks_in t) mode.listing list at) k (refuted b v.0 (omega (arith, v.1, l)) (omega (arith, v.1, u))))
        (w.passed q u (behind_all first m i q u n (dec_le first q)))

    pub backtracking_end : k < t.tasks.count → m ≡ t.processors.count → BacktrackedIn t mode (standing s.on) old before list (record { outcome = Nothing; count = at })
    backtracking_end l e = record {
      list = w.list;
      answer = branch t (Bad (tasks_in t) mode.listing list at) (standing s.on) l (λ q u. refuted (q + 1) q (omega arith) (omega arith));
    }
