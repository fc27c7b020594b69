-- The judge's answer has its meaning in the tick run. Assumes nothing.
use mathlib.Core.Path.{◌≡◌, refl, sym, ap, ap₂, subst, ◌∙◌}
use mathlib.Core.Logic.{◌≢◌, ◌↔◌}
use mathlib.Core.List.{List}
use Prim.Native.Nat.{ℕ, ◌≤◌, ◌<◌}
use native.Mathlib.Omega.{arith}
use native.Mathlib.Decide.{ℕ_discrete, dec_lt}
use borrow.Author.Tests.{lt-ltb, le-ltb, eq-eqb, ne_eqb}
use lib.Dec.{T, leb, ltb, eqb, eqb→eq, eqb_refl, lt→ltb}
use lib.IntN.{pos}
use lib.ListN.{length, get_or, get_or-eq_default}
use Rattle.std.specs.Prelude.{Option, Some, None, Result, Ok, Err}
use Rattle.std.proofs.lemmas.Bool.{leb-true, leb-false}
use Rattle.std.proofs.lemmas.List.Quantifiers.{position-Some}
use Rattle.finite.specs.Finite.{tabulate}
use Rattle.finite.proofs.Tabulate.{get_d_tabulate, length_tabulate}
use Rattle.finite.proofs.Search.{lowest_same}
use Rattle.mask.proofs.Tests.{and_both, and_right}
use Rattle.wire.specs.Wire.{Bytes}
use Rattle.verdict.specs.declared.Cause.{Cause}
use Rattle.verdict.specs.declared.Cause.TheVariants.{PlacementLength, UnknownProcessor}
use Rattle.table.specs.declared.Refusal.{Refusal}
use Rattle.table.specs.declared.Table.{Table}
use Rattle.table.specs.Refusal.{cause_number}
use Rattle.table.specs.Sound.{Sound}
use Rattle.table.specs.Table.{read_of}
use Rattle.table.proofs.Causes.{cause_range, same_cause}
use Rattle.table.proofs.Columns.{column_length, column_in, column_beyond}
use Rattle.table.proofs.Sound.{read_sound}
use Rattle.schedule.specs.Periodic.{LateTask, LateSet}
use Rattle.schedule.specs.Response.{worst_response, response}
use Rattle.schedule.specs.Margin.{margin_of}
use Rattle.schedule.proofs.LateSets.{worst_least, response_least, late_task, late_set}
use Rattle.schedule.proofs.Signed.{margin_is, margin_in_time}
use Rattle.timing.specs.Timing.{tasks_in}
use Rattle.timing.proofs.Limits.{valid_tasks, constrained_tasks}
use Rattle.rules.specs.declared.Rule.{Rule}
use Rattle.rules.specs.declared.Rule.TheVariants.{Residence, CoResidence, Exclusion, Memory, Utilisation, Network, Deadline}
use Rattle.rules.specs.Placement.{placed}
use Rattle.rules.specs.Rules.{rule_number, concerned, broken, Check, first_broken}
use Rattle.rules.specs.Sets.{missed}
use Rattle.rules.proofs.Order.{same_rule, numbers, BrokenFirst, Finds, none, one, first_broken_lem, broken_first, kept_keeps, keeps_kept}
use Rattle.judge.specs.Judge.{PlacementOf, first_unknown, alongside, responses_of, known_zero, margin_at, margins_of, Judgement, judged_placement, refused_judgement, judged_on, judge_of, check_number, check_concerned, judgement_number, concerned_of}
use Rattle.judge.specs.Good.{Good}
use Rattle.judge.specs.Meaning.{Reads, FirstUnknown, JudgeRefuses, unreadable, wrong_length, unknown_processor, Breaks, FirstBroken, Responses, Margins, Judges, JudgeMeans}
use Rattle.judge.proofs.Limits.{placement_of}

-- ---- 13, 14, and what is left

-- the three outcomes on a table that was read
pub data Judging (t : Table) (q : List ℕ) : Judgement → Type 0 where
  of_length : length q ≢ t.tasks.count → Judging t q (refused_judgement PlacementLength 0)
  of_byte : {k : ℕ} → FirstUnknown t q k → Judging t q (refused_judgement UnknownProcessor k)
  of_rules : PlacementOf t q → Judging t q (Ok (judged_placement t q))

unknown_at : {t : Table} {q : List ℕ} {k : ℕ} → length q ≡ t.tasks.count → first_unknown t.processors.count q ≡ Some k → FirstUnknown t q k
unfolding first_unknown
unknown_at {t} {q} {k} l e =
    let m = t.processors.count in
    let p = position-Some (leb m) q k 0 e in
    record { long = l; inside = p.0; unknown = leb-true m _ p.1; lowest = λ j a b. absurd (omega (arith, leb-false m (get_or q j 0) (p.2 j a))) }

pub judging : (t : Table) (q : List ℕ) → Judging t q (judged_on t q)
unfolding judged_on
judging t q = go (ℕ_discrete (length q) t.tasks.count) (first_unknown t.processors.count q) refl
  where
    go : Dec (length q ≡ t.tasks.count) → (u : Option ℕ) → first_unknown t.processors.count q ≡ u → Judging t q (judged_on t q)
    go (no d) u e = rw (ne_eqb _ _ d) (of_length d)
    go (yes l) (Some k) e = rw (eq-eqb _ _ l, e) (of_byte (unknown_at l e))
    go (yes l) None e = rw (eq-eqb _ _ l, e) (of_rules (placement_of l e))

-- a byte that names no processor is in no placement
unknown_placement : {t : Table} {q : List ℕ} {k : ℕ} → FirstUnknown t q k → PlacementOf t q → ⊥
unknown_placement {k = k} u w = omega (arith, u.unknown, w.known k u.inside)

-- ---- responses and margins, and 107 in the tick run

module _ {t : Table} (s : Sound t) {q : List ℕ} (w : PlacementOf t q) where
  response_at : (k : ℕ) → k < t.tasks.count → get_or (responses_of t q) k 0 ≡ response (tasks_in t) (alongside q k) k
  unfolding responses_of
  response_at k l = column_in 24 t.tasks.count (λ i. response (tasks_in t) (alongside q i) i) k s.tasks.most l

  right_responses : Responses t q (responses_of t q)
  unfolding responses_of
  right_responses = record {
    long = column_length 24 t.tasks.count (λ i. response (tasks_in t) (alongside q i) i);
    least = λ k l. rw (response_at k l) (response_least (tasks_in t) (valid_tasks s) (alongside q k) k l (constrained_tasks s k l));
    beyond = column_beyond 24 t.tasks.count (λ i. response (tasks_in t) (alongside q i) i);
  }

  margin_at_lem : (k : ℕ) → k < t.tasks.count → get_or (margins_of t q) k known_zero ≡ margin_of (tasks_in t) (alongside q k) k
  unfolding margins_of
  margin_at_lem k l = rw (get_d_tabulate 24 (margin_at t.tasks.count (tasks_in t) q) k known_zero (omega (arith, s.tasks.most)), lt-ltb k t.tasks.count l) refl

  margin_past : (k : ℕ) → t.tasks.count ≤ k → get_or (margins_of t q) k known_zero ≡ known_zero
  unfolding margins_of
  margin_past k l = go (dec_lt k 24)
    where
      go : Dec (k < 24) → get_or (tabulate 24 (margin_at t.tasks.count (tasks_in t) q)) k known_zero ≡ known_zero
      go (yes h) = rw (get_d_tabulate 24 (margin_at t.tasks.count (tasks_in t) q) k known_zero h, le-ltb k t.tasks.count l) refl
      go (no h) = get_or-eq_default (tabulate 24 (margin_at t.tasks.count (tasks_in t) q)) known_zero (omega (arith, length_tabulate 24 (margin_at t.tasks.count (tasks_in t) q)))

  right_margins : Margins t q (margins_of t q)
  unfolding margins_of
  right_margins = record {
    long = length_tabulate 24 (margin_at t.tasks.count (tasks_in t) q);
    right = λ k l. rw (margin_at_lem k l) (margin_is ((tasks_in t).D k) (worst_least (tasks_in t) (valid_tasks s) (alongside q k) k l));
    past = margin_past;
  }

  -- a task whose response is not 0 has a margin of at least 0, and so have the places past the tasks
  margin_kept : ((k : ℕ) → k < t.tasks.count → T (missed (responses_of t q) k) → ⊥) → (k : ℕ) → (x : ℕ) × (get_or (margins_of t q) k known_zero ≡ Some (pos x))
  unfolding response
  margin_kept kept k = go (dec_lt k t.tasks.count)
    where
      go : Dec (k < t.tasks.count) → (x : ℕ) × (get_or (margins_of t q) k known_zero ≡ Some (pos x))
      go (yes l) =
          let some : response (tasks_in t) (alongside q k) k ≡ 0 → ⊥ = λ e. kept k l (rw (response_at k l ∙ e) tt) in
          rw (margin_at_lem k l) (margin_in_time ((tasks_in t).D k) (worst_response (tasks_in t) (alongside q k) k) (omega arith))
      go (no l) = (0, margin_past k (omega arith))

  -- a task stands on its own processor
  itself : (k : ℕ) → k < t.tasks.count → T (alongside q k k)
  itself k l = and_both (ltb k (length q)) (eqb (get_or q k 0) (get_or q k 0)) (lt→ltb k (length q) (omega (arith, w.long))) (eqb_refl (get_or q k 0))

  missed_late : (k : ℕ) → k < t.tasks.count → T (missed (responses_of t q) k) ↔ LateTask (tasks_in t) (alongside q k) k
  missed_late k l = let e = late_task (tasks_in t) (valid_tasks s) (alongside q k) k l (itself k l) (constrained_tasks s k l) in (
    λ u. e.1 (sym (response_at k l) ∙ eqb→eq (get_or (responses_of t q) k 0) 0 u),
    λ u. rw (response_at k l ∙ e.0 u) tt,
  )

  -- a processor's set is late by one of its tasks
  late_missed : (p : ℕ) → LateSet (tasks_in t) (λ k. placed q k p) → (k : ℕ) × (k < t.tasks.count) × T (missed (responses_of t q) k)
  late_missed p late =
      let e = (late_set (tasks_in t) (valid_tasks s) (λ k. placed q k p) (constrained_tasks s)).0 late in
      let k = e.0 in
      let here : get_or q k 0 ≡ p = eqb→eq (get_or q k 0) p (and_right (ltb k (length q)) (eqb (get_or q k 0) p) e.2) in
      (k, e.1, rw (response_at k e.1 ∙ ap (λ (x : ℕ). response (tasks_in t) (λ j. placed q j x) k) here ∙ e.3) tt)

  -- a rule as the check has it, and in the tick run
  breaks : (rule : Rule) (k : ℕ) → k < concerned t rule → T (broken t (placed q) (missed (responses_of t q)) rule k) ↔ Breaks t q rule k
  breaks Residence k l = (λ u. u, λ u. u)
  breaks CoResidence k l = (λ u. u, λ u. u)
  breaks Exclusion k l = (λ u. u, λ u. u)
  breaks Memory k l = (λ u. u, λ u. u)
  breaks Utilisation k l = (λ u. u, λ u. u)
  breaks Network k l = (λ u. u, λ u. u)
  breaks Deadline k l = missed_late k l

  module _ {rule : Rule} {k : ℕ} where
    first_of : BrokenFirst t (placed q) (missed (responses_of t q)) 101 rule k → FirstBroken t q rule k
    first_of v = record {
      placement = w;
      within = v.within;
      breaks = (breaks rule k v.within).0 v.breaks;
      lowest = λ j l u. v.least j l ((breaks rule j (omega (arith, v.within))).1 u);
      first = λ r l j h u. v.earlier r (numbers r).0 l j h ((breaks r j h).1 u);
    }

    of_first : FirstBroken t q rule k → BrokenFirst t (placed q) (missed (responses_of t q)) 101 rule k
    of_first v = record {
      within = v.within;
      breaks = (breaks rule k v.within).1 v.breaks;
      least = λ j l u. v.lowest j l ((breaks rule j (omega (arith, v.within))).0 u);
      earlier = λ r a l j h u. v.first r l j h ((breaks r j h).0 u);
    }

-- ---- the numbers

zero_check : (c : Check) → check_number c ≡ 0 → c ≡ Ok tt
zero_check (Ok x) e = refl
zero_check (Err b) e = absurd (omega (arith, numbers b.rule))

zero_concerned : (j : Judgement) → judgement_number j ≡ 0 → concerned_of j ≡ 0
zero_concerned (Ok j) e = ap check_concerned (zero_check j.check e)
zero_concerned (Err r) e = absurd (omega (arith, cause_range r.cause))

-- no check has the number of a cause
no_cause : (c : Check) (cause : Cause) → check_number c ≡ cause_number cause → ⊥
no_cause (Ok x) cause e = omega (arith, cause_range cause)
no_cause (Err b) cause e = omega (arith, cause_range cause, numbers b.rule)

-- number and number concerned tell the check
same_check : (c d : Check) → check_number c ≡ check_number d → check_concerned c ≡ check_concerned d → c ≡ d
same_check (Ok x) (Ok y) e f = refl
same_check (Ok x) (Err b) e f = absurd (omega (arith, numbers b.rule))
same_check (Err b) (Ok x) e f = absurd (omega (arith, numbers b.rule))
same_check (Err b) (Err d) e f = ap₂ (λ (r : Rule) (k : ℕ). Err (record { rule = r; number = k })) (same_rule b.rule d.rule e) f

-- a judgement without responses and margins: the check of the rules, or the refusal
abbrev pub checked : Judgement → Result Check Refusal
checked (Ok j) = Ok j.check
checked (Err r) = Err r

-- number and number concerned tell the judgement
pub same_judgement : (i j : Judgement) → judgement_number i ≡ judgement_number j → concerned_of i ≡ concerned_of j → checked i ≡ checked j
same_judgement (Ok i) (Ok j) e f = ap (λ (c : Check). Ok c) (same_check i.check j.check e f)
same_judgement (Ok i) (Err r) e f = absurd (no_cause i.check r.cause e)
same_judgement (Err r) (Ok j) e f = absurd (no_cause j.check r.cause (sym e))
same_judgement (Err r) (Err s) e f = ap₂ (λ (c : Cause) (at : ℕ). Err (record { cause = c; place = at })) (same_cause r.cause s.cause e) f

-- only a placement that keeps every rule has the number 0
pub zero_kept : (j : Judgement) → judgement_number j ≡ 0 → Judges j (λ x. x.check ≡ Ok tt)
zero_kept (Ok j) e = (j, refl, zero_check j.check e)
zero_kept (Err r) e = absurd (omega (arith, cause_range r.cause))

-- ---- the judgement of a table that was read

module _ {t : Table} (s : Sound t) (q : List ℕ) where
  pub kept_good : judgement_number (judged_on t q) ≡ 0 → Good t q
  kept_good e = go (judging t q) e
    where
      go : {j : Judgement} → Judging t q j → judgement_number j ≡ 0 → Good t q
      go (of_length d) e = absurd (omega arith)
      go (of_byte u) e = absurd (omega arith)
      go (of_rules w) e =
          let k = kept_keeps t (placed q) (missed (responses_of t q)) (zero_check _ e) in
          record { placement = w; keeps = k.0; in_time = λ p late. let r = late_missed s w p late in k.1 r.0 r.1 r.2 }

  pub good_kept : Good t q → judgement_number (judged_on t q) ≡ 0
  good_kept g = go (judging t q)
    where
      go : {j : Judgement} → Judging t q j → judgement_number j ≡ 0
      go (of_length d) = absurd (d g.placement.long)
      go (of_byte u) = absurd (unknown_placement u g.placement)
      go (of_rules w) =
          ap check_number (keeps_kept t (placed q) (missed (responses_of t q)) g.keeps (λ k l u. let x = (missed_late s w k l).0 u in g.in_time (get_or q k 0) (record { task = k; tick = x.0; late = x.1 })))

  module _ {rule : Rule} {k : ℕ} where
    broken_right : judgement_number (judged_on t q) ≡ rule_number rule → concerned_of (judged_on t q) ≡ k → FirstBroken t q rule k
    broken_right = go (judging t q)
      where
        check : PlacementOf t q → {c : Check} → Finds t (placed q) (missed (responses_of t q)) 101 c → check_number c ≡ rule_number rule → check_concerned c ≡ k → FirstBroken t q rule k
        check w (none f) e at = absurd (omega (arith, numbers rule))
        check w (one {r = r} {k = j} v) e at =
            first_of s w
            (subst (λ (x : Rule). BrokenFirst t (placed q) (missed (responses_of t q)) 101 x k) (same_rule r rule e) (subst (BrokenFirst t (placed q) (missed (responses_of t q)) 101 r) at v))

        go : {j : Judgement} → Judging t q j → judgement_number j ≡ rule_number rule → concerned_of j ≡ k → FirstBroken t q rule k
        go (of_length d) e at = absurd (omega (arith, numbers rule))
        go (of_byte u) e at = absurd (omega (arith, numbers rule))
        go (of_rules w) e at = check w (first_broken_lem t (placed q) (missed (responses_of t q))) e at

    right_broken : FirstBroken t q rule k → (judgement_number (judged_on t q) ≡ rule_number rule) × (concerned_of (judged_on t q) ≡ k)
    right_broken v = go (judging t q)
      where
        go : {j : Judgement} → Judging t q j → (judgement_number j ≡ rule_number rule) × (concerned_of j ≡ k)
        go (of_length d) = absurd (d v.placement.long)
        go (of_byte u) = absurd (unknown_placement u v.placement)
        go (of_rules w) = let e = broken_first t (placed q) (missed (responses_of t q)) (of_first s w v) in (ap check_number e, ap check_concerned e)

  placement_times : PlacementOf t q → Judges (judged_on t q) (λ j. Responses t q j.responses × Margins t q j.margins)
  placement_times v = go (judging t q)
    where
      go : {j : Judgement} → Judging t q j → Judges j (λ j. Responses t q j.responses × Margins t q j.margins)
      go (of_length d) = absurd (d v.long)
      go (of_byte u) = absurd (unknown_placement u v)
      go (of_rules w) = (judged_placement t q, refl, (right_responses s w, right_margins s w))

  kept_margins : judgement_number (judged_on t q) ≡ 0 → Judges (judged_on t q) (λ j. (k : ℕ) → (x : ℕ) × (get_or j.margins k known_zero ≡ Some (pos x)))
  kept_margins e = go (judging t q) e
    where
      go : {j : Judgement} → Judging t q j → judgement_number j ≡ 0 → Judges j (λ j. (k : ℕ) → (x : ℕ) × (get_or j.margins k known_zero ≡ Some (pos x)))
      go (of_length d) e = absurd (omega arith)
      go (of_byte u) e = absurd (omega arith)
      go (of_rules w) e = (judged_placement t q, refl, margin_kept s w (kept_keeps t (placed q) (missed (responses_of t q)) (zero_check _ e)).1)

-- ---- the judgement of a file

module _ (file q : List ℕ) where
  on_refused : {r : Refusal} → read_of file ≡ Err r → judge_of file q ≡ Err r
  unfolding judge_of
  on_refused e = rw e

  on_table : {t : Table} → read_of file ≡ Ok t → judge_of file q ≡ judged_on t q
  unfolding judge_of
  on_table e = rw e

  -- a file whose judgement has the number of no cause is read
  is_read : (n : ℕ) → judgement_number (judge_of file q) ≡ n → ((cause : Cause) → n ≡ cause_number cause → ⊥) → (t : Table) × (read_of file ≡ Ok t) × (judgement_number (judged_on t q) ≡ n)
  is_read n e other = go (read_of file) refl
    where
      go : (r : Result Table Refusal) → read_of file ≡ r → (t : Table) × (read_of file ≡ Ok t) × (judgement_number (judged_on t q) ≡ n)
      go (Ok t) h = (t, h, ap judgement_number (sym (on_table h)) ∙ e)
      go (Err r) h = absurd (other r.cause (sym e ∙ ap judgement_number (on_refused h)))

  refused_right : (cause : Cause) (place : ℕ) → judgement_number (judge_of file q) ≡ cause_number cause → concerned_of (judge_of file q) ≡ place → JudgeRefuses file q cause place
  refused_right cause place e at = go (read_of file) refl
    where
      by : {c : Cause} {p : ℕ} → cause_number c ≡ cause_number cause → p ≡ place → JudgeRefuses file q c p → JudgeRefuses file q cause place
      by {c} {p} e at r = subst (λ (x : Cause). JudgeRefuses file q x place) (same_cause c cause e) (subst (JudgeRefuses file q c) at r)

      on : {t : Table} → read_of file ≡ Ok t → {j : Judgement} → Judging t q j → judgement_number j ≡ cause_number cause → concerned_of j ≡ place → JudgeRefuses file q cause place
      on {t} h (of_length d) e at = by e at (wrong_length (t, h, d))
      on {t} h (of_byte u) e at = by e at (unknown_processor (t, h, u))
      on {t} h (of_rules w) e at = absurd (no_cause (first_broken t (placed q) (missed (responses_of t q))) cause e)

      go : (r : Result Table Refusal) → read_of file ≡ r → JudgeRefuses file q cause place
      go (Ok t) h = on h (judging t q) (ap judgement_number (sym (on_table h)) ∙ e) (ap concerned_of (sym (on_table h)) ∙ at)
      go (Err r) h = by (ap judgement_number (sym (on_refused h)) ∙ e) (ap concerned_of (sym (on_refused h)) ∙ at) (unreadable h)

  right_refused : {cause : Cause} {place : ℕ} → JudgeRefuses file q cause place → judge_of file q ≡ refused_judgement cause place
  right_refused (unreadable h) = on_refused h
  right_refused (wrong_length h) = on_table h.1 ∙ go (judging h.0 q)
    where
      go : {j : Judgement} → Judging h.0 q j → j ≡ refused_judgement PlacementLength 0
      go (of_length d) = refl
      go (of_byte u) = absurd (h.2 u.long)
      go (of_rules w) = absurd (h.2 w.long)
  right_refused (unknown_processor {k = k} h) = on_table h.1 ∙ go (judging h.0 q)
    where
      go : {j : Judgement} → Judging h.0 q j → j ≡ refused_judgement UnknownProcessor k
      go (of_length d) = absurd (d h.2.long)
      go (of_byte u) = ap (refused_judgement UnknownProcessor) (lowest_same (λ j. h.0.processors.count ≤ get_or q j 0) u.unknown u.lowest h.2.unknown h.2.lowest)
      go (of_rules w) = absurd (unknown_placement h.2 w)

-- ---- the theorem

pub judge_meaning : (file : List ℕ) → Bytes file → (q : List ℕ) → JudgeMeans file q (judge_of file q)
judge_meaning file b q = record {
  kept = (λ e. let r = kept e in (r.0, r.1, kept_good (sound r.1) q r.2), λ h. number h.1 (good_kept (sound h.1) q h.2));
  broken = λ rule k. (
    λ e. right rule k e.0 e.1,
    λ h. let e = right_broken (sound h.1) q h.2 in (number h.1 e.0, ap concerned_of (on_table file q h.1) ∙ e.1),
  );
  refused = λ cause place. (
    λ e. refused_right file q cause place e.0 e.1,
    λ h. let e = right_refused file q h in (ap judgement_number e, ap concerned_of e),
  );
  kept_zero = zero_concerned (judge_of file q);
  network_zero = λ e. let h = right Network (concerned_of (judge_of file q)) e refl in omega (arith, h.2.within);
  responses = λ h. let r = placement_times (sound h.1) q h.2 in (r.0, on_table file q h.1 ∙ r.1, r.2.0);
  margins = λ h. let r = placement_times (sound h.1) q h.2 in (r.0, on_table file q h.1 ∙ r.1, r.2.1);
  kept_margins = λ e. let r = kept e in let m = kept_margins (sound r.1) q r.2 in (m.0, on_table file q r.1 ∙ m.1, m.2);
  nothing = right_refused file q;
}
  where
    sound : {t : Table} → read_of file ≡ Ok t → Sound t
    sound = read_sound file b

    number : {t : Table} {n : ℕ} → read_of file ≡ Ok t → judgement_number (judged_on t q) ≡ n → judgement_number (judge_of file q) ≡ n
    number h e = ap judgement_number (on_table file q h) ∙ e

    kept : judgement_number (judge_of file q) ≡ 0 → (t : Table) × (read_of file ≡ Ok t) × (judgement_number (judged_on t q) ≡ 0)
    kept e = is_read file q 0 e (λ cause z. absurd (omega (arith, cause_range cause)))

    right : (rule : Rule) (k : ℕ) → judgement_number (judge_of file q) ≡ rule_number rule → concerned_of (judge_of file q) ≡ k → Reads file (λ t. FirstBroken t q rule k)
    right rule k e at =
        let r = is_read file q (rule_number rule) e (λ cause z. absurd (omega (arith, numbers rule, cause_range cause))) in
        (r.0, r.1, broken_right (sound r.1) q r.2 (ap concerned_of (sym (on_table file q r.1)) ∙ at))
