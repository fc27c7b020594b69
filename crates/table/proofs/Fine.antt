-- The scan's invariant: each record taken so far stands at its place and was accepted there, and the hyperperiod is that of the
-- tasks taken. It holds at the start, and each accepted record keeps it. Assumes nothing.
use mathlib.Core.Path.{◌≡◌, refl, sym, ap, ap₂, subst, ◌∙◌}
use mathlib.Core.Logic.{◌≢◌}
use mathlib.Core.List.{List}
use Prim.Native.Nat.{ℕ, suc, ◌+◌, ◌≤◌, ◌<◌}
use native.Mathlib.Nat.{le_of_suc-le-suc, lt_of_not-le}
use native.Mathlib.Numerals.{add-one}
use native.Mathlib.Omega.{arith}
use native.Mathlib.Decide.{ℕ_discrete}
use borrow.Author.Tests.{ne_eqb}
use Rattle.lcm.specs.Lcm.{lcm, lcm_to}
use Rattle.lcm.proofs.Laws.{lcm_to_ext}
use Rattle.layout.specs.declared.Kind.{Kind}
use Rattle.layout.specs.declared.Kind.TheVariants.{Task}
use Rattle.layout.specs.declared.Progress.{Progress}
use Rattle.layout.specs.Format.{row, size, count, place, period}
use Rattle.layout.proofs.EachKind.{Versus, same, other, versus, next_above}
use Rattle.layout.proofs.Places.{place_agree, place_last}
use Rattle.verdict.specs.Faults.{hyperperiod_with}
use Rattle.verdict.specs.Reached.{Reached}
use Rattle.verdict.proofs.Accepted.{Accepted}
use Rattle.table.specs.Scan.{no_records, with_record}
use Rattle.table.proofs.Progress.{no_records_lem, count_same, count_other, reached_start, reached_next}

-- record j of a kind was accepted at its place, after j records of its kind and all those of the kinds before
pub record Stands (s : List ℕ) (x : Progress) (k : Kind) (j : ℕ) : Type 0 where
  pub before : Progress
  pub agree : (i : Kind) → (row i).order < (row k).order → count before i ≡ count x i
  pub number : count before k ≡ j
  pub accepted : Accepted s (place x k j) before k

-- the records taken, up to a place
pub record Fine (s : List ℕ) (at : ℕ) (x : Progress) : Type 0 where
  pub reached : Reached s at x
  pub later : (k : Kind) → x.next < (row k).order → count x k ≡ 0
  pub stands : (k : Kind) (j : ℕ) → j < count x k → Stands s x k j
  pub hyperperiod : x.hyperperiod ≡ lcm_to (count x Task) (λ j. period s (place x Task j))

pub fine_start : (s : List ℕ) → Fine s 0 no_records
unfolding lcm_to
fine_start s = record {
  reached = reached_start s;
  later = λ k l. no_records_lem k;
  stands = λ k j l. absurd (omega (arith, no_records_lem k));
  hyperperiod = refl;
}

module _ {s : List ℕ} {at : ℕ} {x : Progress} {k : Kind} (f : Fine s at x) (a : Accepted s at x k) where
  -- the records with the accepted one
  y : Progress
  y = with_record x k (hyperperiod_with s at x k)

  -- no kind behind k was taken
  none_later : (i : Kind) → (row k).order < (row i).order → count x i ≡ 0
  none_later i l = f.later i (omega (arith, a.in_order))

  count_y : (i : Kind) → (row i).order ≢ (row k).order → count y i ≡ count x i
  unfolding y
  count_y = count_other x k (hyperperiod_with s at x k)

  -- the kinds up to k stay where they are
  place_y : (i : Kind) → (row i).order ≤ (row k).order → (j : ℕ) → place y i j ≡ place x i j
  place_y i l = place_agree y x i (λ e m. count_y e (omega arith))

  stays : (i : Kind) (j : ℕ) → (row i).order ≤ (row k).order → Stands s x i j → Stands s y i j
  stays i j l r = record {
    before = r.before;
    agree = λ e m. r.agree e m ∙ sym (count_y e (omega arith));
    number = r.number;
    accepted = subst (λ (p : ℕ). Accepted s p r.before i) (sym (place_y i l j)) r.accepted;
  }

  at_place : at ≡ place y k (count x k)
  at_place = f.reached.ends ∙ sym (place_last x k none_later) ∙ sym (place_y k (omega arith) (count x k))

  newest : Stands s y k (count x k)
  newest = record {
    before = x;
    agree = λ i l. sym (count_y i (omega arith));
    number = refl;
    accepted = subst (λ (p : ℕ). Accepted s p x k) at_place a;
  }

  -- a kind with a record is none behind k
  up_to : (i : Kind) (j : ℕ) → j < count x i → (row i).order ≤ (row k).order
  up_to i j l = le_of_suc-le-suc (lt_of_not-le (λ (m : (row k).order < (row i).order). omega (arith, none_later i m)))

  count_k : count y k ≡ suc (count x k)
  unfolding y
  count_k = count_same x k (hyperperiod_with s at x k) f.reached.counted.kinds ∙ add-one (count x k)

  all_stand : (i : Kind) (j : ℕ) → j < count y i → Stands s y i j
  all_stand i j l = go (versus i k)
    where
      of_k : j < count y k → Dec (count x k ≡ j) → Stands s y k j
      of_k m (yes e) = subst (λ (n : ℕ). Stands s y k n) e newest
      of_k m (no e) = stays k j (omega arith) (f.stands k j (omega (arith, count_k)))

      go : Versus i k → Stands s y i j
      go (same e) = subst (λ (c : Kind). Stands s y c j) (sym e) (of_k (subst (λ (c : Kind). j < count y c) e l) (ℕ_discrete (count x k) j))
      go (other d) = let m : j < count x i = omega (arith, count_y i d) in stays i j (up_to i j m) (f.stands i j m)

  -- the tasks taken before, from where they stand now
  periods : lcm_to (count x Task) (λ j. period s (place y Task j)) ≡ x.hyperperiod
  periods =
      lcm_to_ext (count x Task) (λ j. period s (place y Task j)) (λ j. period s (place x Task j)) (λ j l. ap (period s) (place_y Task (up_to Task j l) j))
      ∙ sym f.hyperperiod

  other_hyperperiod : (row Task).order ≢ (row k).order → x.hyperperiod ≡ lcm_to (count y Task) (λ j. period s (place y Task j))
  other_hyperperiod d = sym periods ∙ ap (λ (n : ℕ). lcm_to n (λ j. period s (place y Task j))) (sym (count_y Task d))

task_hyperperiod : {s : List ℕ} {at : ℕ} {x : Progress} (f : Fine s at x) (a : Accepted s at x Task)
    → hyperperiod_with s at x Task ≡ lcm_to (count (y f a) Task) (λ j. period s (place (y f a) Task j))
unfolding lcm_to
task_hyperperiod {s} f a =
    ap₂ lcm (sym (periods f a)) (ap (period s) (at_place f a))
    ∙ ap (λ (n : ℕ). lcm_to n (λ j. period s (place (y f a) Task j))) (sym (count_k f a))

hyperperiod_next : {s : List ℕ} {at : ℕ} {x : Progress} (k : Kind) (f : Fine s at x) (a : Accepted s at x k) → Versus Task k
    → hyperperiod_with s at x k ≡ lcm_to (count (y f a) Task) (λ j. period s (place (y f a) Task j))
hyperperiod_next {s} {at} {x} k f a (same e) =
    subst (λ (i : Kind). (b : Accepted s at x i) → hyperperiod_with s at x i ≡ lcm_to (count (y f b) Task) (λ j. period s (place (y f b) Task j))) e (task_hyperperiod f) a
hyperperiod_next k f a (other d) = rw (ne_eqb (row k).order (row Task).order (λ e. d (sym e))) (other_hyperperiod f a d)

pub fine_next : {s : List ℕ} {at : ℕ} {x : Progress} {k : Kind} → Fine s at x → Accepted s at x k → Fine s (at + size k) (with_record x k (hyperperiod_with s at x k))
unfolding y
fine_next {x = x} {k = k} f a = record {
  reached = reached_next f.reached a;
  later = λ i l. count_y f a i (omega (arith, next_above k)) ∙ none_later f a i (omega (arith, next_above k));
  stands = all_stand f a;
  hyperperiod = hyperperiod_next k f a (versus Task k);
}
