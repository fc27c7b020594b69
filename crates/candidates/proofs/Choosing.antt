-- The candidates of a processor: the test of one task, the loop over the open tasks, the loop over the processors. Assumes nothing.
use mathlib.Core.Path.{◌≡◌, subst}
use mathlib.Core.Logic.{◌⊎◌, inl, inr, ⊎_elim}
use mathlib.Core.Bool.{Bool, true, false, not, ◌||◌, false≢true}
use mathlib.Core.List.{List}
use Prim.Native.Nat.{ℕ, ◌+◌, ◌≤◌, ◌<◌}
use native.Mathlib.Decide.{ℕ_discrete}
use native.Mathlib.Omega.{arith}
use borrow.Author.Tests.{ne_eqb, not-true, not-false}
use lib.Dec.{T, eqb, eqb→eq, eqb_refl}
use lib.ListN.{length, get_or, set}
use lib.Seq.{get_or-set_same, get_or-set_other}
use Rattle.finite.proofs.Some.{or_left, or_right, or_either}
use Rattle.mask.specs.Mask.{has, below, insert_of, remove_of}
use Rattle.mask.proofs.Laws.{has_zero, has_insert, has_remove, has_below, below_has}
use Rattle.table.specs.declared.Table.{Table}
use Rattle.table.specs.Sound.{Sound}
use Rattle.schedule.specs.Arrays.{Says}
use Rattle.rules.specs.Placement.{placed, and_task}
use Rattle.rules.specs.Rules.{Keeps}
use Rattle.rules.specs.Sets.{standing}
use Rattle.rules.proofs.Monotone.{keeps_part}
use Rattle.timing.specs.Timing.{tasks_in}
use Rattle.timing.proofs.Limits.{valid_tasks, constrained_tasks}
use Rattle.nogoods.specs.declared.Mode.{Mode}
use Rattle.nogoods.specs.declared.Tested.{Tested}
use Rattle.nogoods.specs.Nogoods.{Nogoods, Extended, Bad, Verdict, Noted}
use Rattle.nogoods.proofs.Growth.{extended_refl, extended_trans, extended_map}
use Rattle.nogoods.proofs.Verdicts.{bad_grows, bad_more}
use Rattle.partial.specs.declared.State.{State}
use Rattle.partial.specs.Partial.{Fits}
use Rattle.partial.proofs.OneMore.{residence_needed}
use Rattle.region.specs.Region.{Within, Met}
use Rattle.region.specs.Begins.{Eligible}
use Rattle.region.proofs.Refuting.{and_within}
use Rattle.candidates.specs.declared.Joining.{Joining}
use Rattle.candidates.specs.declared.Chosen.{Chosen}
use Rattle.candidates.specs.Candidates.{Fair, JoinsAs, Choice, ChosenAs, CandidatesAs}
use Rattle.candidates.proofs.Meeting.{met_among}

-- fair for more kinds of sets is fair for fewer
pub fair_map : {t : Table} {s : State} {B C : (ℕ → Bool) → Type 0} {q : List ℕ} → ((x : ℕ → Bool) → B x → C x) → Fair t s C q → Fair t s B q
fair_map f w = record { whole = w.whole; inside = w.inside; keeps = w.keeps; clear = λ p l b. w.clear p l (f _ b) }

pub choice_map : {t : Table} {s : State} {B C : (ℕ → Bool) → Type 0} {p set : ℕ} → ((x : ℕ → Bool) → B x → C x) → Choice t s B p set → Choice t s C p set
choice_map f c = record { eligible = c.eligible; complete = λ q w. c.complete q (fair_map f w) }

-- ---- the open task k on processor p

module _ {t : Table} {s : State} (h : Sound t) (f : Fits t s) (k p : ℕ) (waits : T (has s.left k)) (low : p < t.processors.count) where
  -- a fair placement that has it there keeps the rules
  keeps_there : {B : (ℕ → Bool) → Type 0} (q : List ℕ) → Fair t s B q → T (placed q k p) → Keeps t (and_task (standing s.on) k p)
  keeps_there q w there = keeps_part t (and_task (standing s.on) k p) (placed q) (and_within (standing s.on) k p (placed q) w.inside there) w.keeps

  module _ {mode : Mode} {old : List ℕ} {before : ℕ} where
    -- the rules do not allow it
    pub joins_broken : (allowed : Bool) → Says allowed (Keeps t (and_task (standing s.on) k p)) → not allowed ≡ true → Nogoods (tasks_in t) old before
        → JoinsAs t mode s k p old before old (record { able = false; count = before })
    joins_broken allowed says e w = record {
      list = extended_refl w;
      able = λ i. absurd (false≢true i);
      unable = λ i q fair there. subst (λ (b : Bool). Says b (Keeps t (and_task (standing s.on) k p))) (not-true allowed e) says (keeps_there q fair there);
    }

    -- they do, and its set was tested
    pub joins_tested : (allowed : Bool) → Says allowed (Keeps t (and_task (standing s.on) k p)) → not allowed ≡ false
        → {new : List ℕ} (r : Tested) → Noted (tasks_in t) mode (insert_of (get_or s.on p 0) k) old before new r
        → JoinsAs t mode s k p old before new (record { able = not r.bad; count = r.count })
    joins_tested allowed says e {new} r noted = record {
      list = extended_map (λ c g. met_among h f low (λ j. eqb j k) (λ j u. rw (eqb→eq j k u) waits) (λ j u. rw (eqb→eq j k u) home) (λ j u. either j (g j u))) noted.list;
      able = λ i. home;
      unable = λ i q fair there.
          fair.clear p low (bad_more (valid_tasks h) (constrained_tasks h) mode.listing new r.count (has (insert_of (get_or s.on p 0) k)) (λ j. placed q j p) (λ j u. there_too q fair there j (either j u))
          (subst (λ (b : Bool). Verdict b (tasks_in t) mode.listing new r.count (has (insert_of (get_or s.on p 0) k))) (not-false r.bad i) noted.verdict));
    }
      where
        keeps : Keeps t (and_task (standing s.on) k p)
        keeps = subst (λ (b : Bool). Says b (Keeps t (and_task (standing s.on) k p))) (not-false allowed e) says

        home : T (has (get_or t.tasks.residence k 0) p)
        home = residence_needed t h (standing s.on) f.keeps k p (f.open_task k waits).0 low keeps

        either : (j : ℕ) → T (has (insert_of (get_or s.on p 0) k) j) → T (has (get_or s.on p 0) j || eqb j k)
        either j u =
            ⊎_elim (or_right (has (get_or s.on p 0) j) (eqb j k)) (or_left (has (get_or s.on p 0) j) (eqb j k))
            (or_either (eqb j k) (has (get_or s.on p 0) j) (rw (has_insert (get_or s.on p 0) k j) at u))

        there_too : (q : List ℕ) → Fair t s (Bad (tasks_in t) mode.listing new r.count) q → T (placed q k p) → (j : ℕ) → T (has (get_or s.on p 0) j || eqb j k) → T (placed q j p)
        there_too q fair there j u = ⊎_elim (fair.inside j p) (λ v. rw (eqb→eq j k v) there) (or_either (has (get_or s.on p 0) j) (eqb j k) u)

-- ---- the loop over the open tasks

-- of those that a fair placement has on p, each is in the set or still to be looked at
pub record Choosing (t : Table) (mode : Mode) (s : State) (p : ℕ) (old : List ℕ) (before set rest : ℕ) (new : List ℕ) (listed : ℕ) : Type 0 where
  pub list : Extended (Met t (Within (standing s.on))) (tasks_in t) old before new listed
  pub eligible : Eligible t s p set
  pub complete : (q : List ℕ) → Fair t s (Bad (tasks_in t) mode.listing new listed) q → (k : ℕ) → T (has s.left k) → T (placed q k p) → T (has rest k) ⊎ T (has set k)

pub choosing_start : {t : Table} {mode : Mode} {s : State} {p : ℕ} {list : List ℕ} {count : ℕ} → Nogoods (tasks_in t) list count → Choosing t mode s p list count 0 s.left list count
choosing_start w = record {
  list = extended_refl w;
  eligible = record { waits = λ k u. absurd (rw (has_zero k) at u); resides = λ k u. absurd (rw (has_zero k) at u) };
  complete = λ q fair k u there. inl u;
}

module _ {t : Table} {mode : Mode} {s : State} {p : ℕ} {old : List ℕ} {before set rest : ℕ} {list : List ℕ} {listed : ℕ}
    (w : Choosing t mode s p old before set rest list listed) where
  module _ {k : ℕ} (waits : T (has s.left k)) {new : List ℕ} (r : Joining) (a : JoinsAs t mode s k p list listed new r) where
    -- what is known of the tasks other than k
    others : (next : ℕ) → ((j : ℕ) → T (has set j) → T (has next j)) → ((q : List ℕ) → Fair t s (Bad (tasks_in t) mode.listing new r.count) q → T (placed q k p) → T (has next k))
        → (q : List ℕ) → Fair t s (Bad (tasks_in t) mode.listing new r.count) q → (j : ℕ) → T (has s.left j) → T (placed q j p) → T (has (remove_of rest k) j) ⊎ T (has next j)
    others next more here q fair j u there = go (ℕ_discrete j k) (w.complete q (fair_map (λ x. bad_grows (tasks_in t) mode.listing x a.list.grows) fair) j u there)
      where
        go : Dec (j ≡ k) → T (has rest j) ⊎ T (has set j) → T (has (remove_of rest k) j) ⊎ T (has next j)
        go (yes e) o = inr (rw e (here q fair (rw e at there)))
        go (no e) (inl v) = inl (rw (has_remove rest k j, ne_eqb j k e) v)
        go (no e) (inr v) = inr (more j v)

    pub choosing_in : r.able ≡ true → Choosing t mode s p old before (insert_of set k) (remove_of rest k) new r.count
    choosing_in e = record {
      list = extended_trans w.list a.list;
      eligible = record {
        waits = λ j u. ⊎_elim (λ v. rw (eqb→eq j k v) waits) (w.eligible.waits j) (one_of j u);
        resides = λ j u. ⊎_elim (λ v. rw (eqb→eq j k v) (a.able e)) (w.eligible.resides j) (one_of j u);
      };
      complete = others (insert_of set k) (λ j u. rw (has_insert set k j) (or_right (eqb j k) (has set j) u)) (λ q fair there. rw (has_insert set k k) (or_left (eqb k k) (has set k) (eqb_refl k)));
    }
      where
        one_of : (j : ℕ) → T (has (insert_of set k) j) → T (eqb j k) ⊎ T (has set j)
        one_of j u = or_either (eqb j k) (has set j) (rw (has_insert set k j) at u)

    pub choosing_out : r.able ≡ false → Choosing t mode s p old before set (remove_of rest k) new r.count
    choosing_out e = record {
      list = extended_trans w.list a.list;
      eligible = w.eligible;
      complete = others set (λ j u. u) (λ q fair there. absurd (a.unable e q fair there));
    }

  pub choosing_end : rest ≡ 0 → ChosenAs t mode s p old before list (record { set = set; count = listed })
  choosing_end e = record {
    list = w.list;
    choice = record { eligible = w.eligible; complete = λ q fair k u there. ⊎_elim (λ v. absurd (rw (e, has_zero k) at v)) (λ v. v) (w.complete q fair k u there) };
  }

-- ---- the loop over the processors

pub record Collecting (t : Table) (mode : Mode) (s : State) (old : List ℕ) (before p : ℕ) (sets new : List ℕ) (listed : ℕ) : Type 0 where
  pub list : Extended (Met t (Within (standing s.on))) (tasks_in t) old before new listed
  pub choices : (r : ℕ) → r < p → Choice t s (Bad (tasks_in t) mode.listing new listed) r (get_or sets r 0)

pub collecting_start : {t : Table} {mode : Mode} {s : State} {sets list : List ℕ} {count : ℕ} → Nogoods (tasks_in t) list count → Collecting t mode s list count 0 sets list count
collecting_start w = record { list = extended_refl w; choices = λ r l. absurd (omega arith) }

module _ {t : Table} {mode : Mode} {s : State} {old : List ℕ} {before p : ℕ} {sets list : List ℕ} {listed : ℕ} (w : Collecting t mode s old before p sets list listed) where
  pub collecting_next : p < length sets → {new : List ℕ} (r : Chosen) → ChosenAs t mode s p list listed new r → Collecting t mode s old before (p + 1) (set sets p r.set) new r.count
  collecting_next low {new} r a = record { list = extended_trans w.list a.list; choices = λ i l. go i l (ℕ_discrete i p) }
    where
      go : (i : ℕ) → i < p + 1 → Dec (i ≡ p) → Choice t s (Bad (tasks_in t) mode.listing new r.count) i (get_or (set sets p r.set) i 0)
      go i l (yes e) = rw (e, get_or-set_same sets p r.set 0 low) a.choice
      go i l (no e) = rw (get_or-set_other sets p i r.set 0 e) (choice_map (λ x. bad_grows (tasks_in t) mode.listing x a.list.grows) (w.choices i (omega arith)))

  pub collecting_end : t.processors.count ≤ p → CandidatesAs t mode s old before list (record { sets = sets; count = listed })
  collecting_end l = record { list = w.list; choices = λ r i. w.choices r (omega arith) }

-- a wider range
pub below_more : (n m x : ℕ) → n ≤ m → T (below n x) → T (below m x)
below_more n m x l b = has_below m x (λ k u. omega (arith, below_has n x b k u))

-- open tasks are tasks
pub open_below : {t : Table} {s : State} → Fits t s → T (below t.tasks.count s.left)
open_below {t} {s} f = has_below t.tasks.count s.left (λ k u. (f.open_task k u).0)

-- and candidates
pub eligible_below : {t : Table} {s : State} {p set : ℕ} → Fits t s → Eligible t s p set → T (below t.tasks.count set)
eligible_below {t} {s} {p} {set} f e = has_below t.tasks.count set (λ k u. (f.open_task k (e.waits k u)).0)
