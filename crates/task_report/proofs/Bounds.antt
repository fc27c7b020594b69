-- The numbers of a judgement are small, and so is the place of a refusal. Assumes nothing.
use mathlib.Core.Path.{◌≡◌, refl, subst}
use Rattle.std.specs.Prelude.{Result, Ok, Err}
use mathlib.Core.Bool.{Bool, true, false, cond}
use mathlib.Core.List.{List}
use Prim.Native.Nat.{ℕ, ◌+◌, ◌*◌, ◌≤◌, ◌<◌}
use native.Mathlib.Omega.{arith}
use native.Mathlib.Decide.{dec_lt}
use lib.Dec.{leb, ltb, leb→le}
use lib.ListN.{length, get_or}
use Rattle.finite.proofs.Only.{only_le}
use Rattle.finite.proofs.Tabulate.{length_tabulate}
use Rattle.wire.specs.Wire.{Bytes}
use Rattle.layout.specs.Format.{longest}
use Rattle.layout.proofs.Places.{longest_is}
use Rattle.verdict.specs.declared.Cause.TheVariants.{ShortAnswer}
use Rattle.table.specs.declared.Refusal.{Refusal}
use Rattle.table.specs.declared.Table.{Table}
use Rattle.table.specs.Sound.{Sound}
use Rattle.table.specs.Table.{read_of}
use Rattle.table.proofs.Columns.{column_in, column_beyond}
use Rattle.table.proofs.Ended.{refused_place}
use Rattle.table.proofs.Sound.{read_sound}
use Rattle.table.proofs.Times.{deadline_most}
use Rattle.schedule.specs.Periodic.{Tasks}
use Rattle.schedule.specs.Response.{worst_response, response}
use Rattle.timing.specs.Timing.{tasks_in}
use Rattle.rules.specs.declared.Rule.{Rule}
use Rattle.rules.specs.declared.Rule.TheVariants.{Residence, CoResidence, Exclusion, Memory, Utilisation, Network, Deadline}
use Rattle.rules.specs.Placement.{placed}
use Rattle.rules.specs.Rules.{concerned, Check}
use Rattle.rules.specs.Sets.{missed}
use Rattle.rules.proofs.Order.{Finds, none, one, first_broken_lem}
use Rattle.judge.specs.declared.Judged.{Judged}
use Rattle.judge.specs.Judge.{alongside, response_of, responses_of, margin_at, margins_of, Judgement, check_concerned, judged_placement, judged_on, judged_by, judge_of}
use Rattle.judge.proofs.Meaning.{Judging, judging, of_length, of_byte, of_rules}
use Rattle.task_report.specs.Report.{tasks_read, report_on, report_answer}
use Rattle.task_report.specs.Small.{Small}

-- ---- the numbers of a judgement

response_most : (s : Tasks) (on : ℕ → Bool) (i : ℕ) → response s on i ≤ s.D i
unfolding response
response_most s on i = only_le (leb (worst_response s on i) (s.D i)) (worst_response s on i) (s.D i) (leb→le (worst_response s on i) (s.D i))

module _ {t : Table} (s : Sound t) where
  concerned_most : (r : Rule) → concerned t r ≤ 24
  concerned_most Residence = s.tasks.most
  concerned_most CoResidence = omega (arith, s.co.most)
  concerned_most Exclusion = omega (arith, s.ex.most)
  concerned_most Memory = omega (arith, s.processors.most)
  concerned_most Utilisation = omega (arith, s.processors.most)
  concerned_most Network = omega arith
  concerned_most Deadline = s.tasks.most

  check_most : {on : ℕ → ℕ → Bool} {late : ℕ → Bool} {low : ℕ} {c : Check} → Finds t on late low c → check_concerned c ≤ longest
  check_most (none f) = omega arith
  check_most (one {r = r} w) = omega (arith, w.within, concerned_most r, longest_is)

  responses_most : (q : List ℕ) (k : ℕ) → get_or (responses_of t q) k 0 ≤ 1000000
  unfolding responses_of
  responses_most q k = go (dec_lt k t.tasks.count)
    where
      go : Dec (k < t.tasks.count) → get_or (responses_of t q) k 0 ≤ 1000000
      go (yes l) = omega (arith, column_in 24 t.tasks.count (response_of (tasks_in t) q) k s.tasks.most l, response_most (tasks_in t) (alongside q k) k, deadline_most s k l)
      go (no l) = omega (arith, column_beyond 24 t.tasks.count (response_of (tasks_in t) q) k (omega arith))

  margins_long : (q : List ℕ) → length (margins_of t q) ≡ 24
  unfolding margins_of
  margins_long q = length_tabulate 24 (margin_at t.tasks.count (tasks_in t) q)

  judging_small : {q : List ℕ} {r : Judgement} {j : Judged} → Judging t q r → r ≡ Ok j → Small j
  judging_small (of_length d) e = absurd (let z : ◌≡◌ {A = ℕ} 0 1 = cc in omega arith)
  judging_small (of_byte u) e = absurd (let z : ◌≡◌ {A = ℕ} 0 1 = cc in omega arith)
  judging_small {q} {j = j} (of_rules w) e =
      let same : judged_placement t q ≡ j = cc in
      subst Small same (record { concerned = check_most (first_broken_lem t (placed q) (missed (responses_of t q))); responses = responses_most q; margins = margins_long q })

  pub judged_small : (q : List ℕ) {j : Judged} → judged_on t q ≡ Ok j → Small j
  judged_small q e = judging_small (judging t q) e

  -- the place of a judgement's refusal
  place_of : {q : List ℕ} {j : Judgement} {r : Refusal} → Judging t q j → j ≡ Err r → r.place ≤ longest
  place_of {r = r} (of_length d) e = let z : 0 ≡ r.place = cc in omega arith
  place_of {r = r} (of_byte {k = k} u) e = let z : k ≡ r.place = cc in omega (arith, u.inside, u.long, s.tasks.most, longest_is)
  place_of (of_rules w) e = absurd (let z : ◌≡◌ {A = ℕ} 0 1 = cc in omega arith)

-- ---- the place of a refusal

pub answer_place : (file : List ℕ) → Bytes file → (q : List ℕ) (room : ℕ) (r : Refusal) → report_answer file q room ≡ Err r → r.place ≤ longest
unfolding report_answer judge_of
answer_place file b q room r e = go (read_of file) refl e
  where
    by_room : (short : Bool) (n : ℕ) → ◌≡◌ {A = Result ℕ Refusal} (cond short (Err (record { cause = ShortAnswer; place = 0 })) (Ok n)) (Err r) → r.place ≤ longest
    by_room true n h = let z : 0 ≡ r.place = cc in omega arith
    by_room false n h = absurd (let z : ◌≡◌ {A = ℕ} 0 1 = cc in omega arith)

    by : {t : Table} → Sound t → (j : Judgement) → judged_on t q ≡ j → report_on t.tasks.count j room ≡ Err r → r.place ≤ longest
    by {t} s (Ok j) h a = by_room (ltb room (2 * t.tasks.count + 2)) (2 * t.tasks.count + 2) a
    by {t} s (Err x) h a = let same : x.place ≡ r.place = cc in omega (arith, place_of s (judging t q) h)

    go : (x : Result Table Refusal) → read_of file ≡ x → report_on (tasks_read x) (judged_by x q) room ≡ Err r → r.place ≤ longest
    go (Err x) h a = let same : x ≡ r = cc in subst (λ (y : Refusal). y.place ≤ longest) same (refused_place file h)
    go (Ok t) h a = by (read_sound file b h) (judged_on t q) refl a
