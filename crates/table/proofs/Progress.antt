-- The records taken so far, one record further: the counts, and what is known between two records.
-- Assumes nothing.
use mathlib.Core.Path.{◌≡◌, refl, sym, ap, subst, ◌∙◌}
use mathlib.Core.Logic.{◌≢◌}
use mathlib.Core.List.{List}
use Prim.Native.Nat.{ℕ, ◌+◌, ◌≤◌}
use native.Mathlib.Omega.{arith}
use borrow.Author.Tests.{ne_eqb}
use lib.ListN.{length, length-set, get_or-replicate}
use lib.Seq.{get_or-set_same, get_or-set_other}
use Rattle.lcm.proofs.Laws.{lcm_pos}
use Rattle.layout.specs.declared.Kind.{Kind}
use Rattle.layout.specs.declared.Kind.TheVariants.{Network, Task}
use Rattle.layout.specs.declared.Progress.{Progress}
use Rattle.layout.specs.Format.{row, size, count, period}
use Rattle.layout.proofs.EachKind.{Versus, same, other, versus, order_below}
use Rattle.layout.proofs.Places.{place_first, place_last, end_more}
use Rattle.verdict.specs.Faults.{hyperperiod_with}
use Rattle.verdict.specs.Reached.{Reached}
use Rattle.verdict.proofs.Accepted.{Accepted}
use Rattle.verdict.proofs.Passed.{task_range, hyperperiod_small}
use Rattle.table.specs.Scan.{no_records, with_record}

-- ---- the counts at the start, and with one record more

pub no_records_lem : (k : Kind) → count no_records k ≡ 0
no_records_lem k = get_or-replicate 6 (row k).order 0 0 (order_below k)

module _ (x : Progress) (k : Kind) (h : ℕ) where
  pub count_same : length x.counts ≡ 6 → count (with_record x k h) k ≡ count x k + 1
  count_same e = get_or-set_same x.counts (row k).order _ 0 (omega (arith, order_below k))

  pub count_other : (j : Kind) → (row j).order ≢ (row k).order → count (with_record x k h) j ≡ count x j
  count_other j d = get_or-set_other x.counts (row k).order (row j).order _ 0 d

-- ---- between two records

pub reached_start : (s : List ℕ) → Reached s 0 no_records
reached_start s = record {
  counted = record { kinds = refl; few = λ k. omega (arith, no_records_lem k) };
  inside = omega arith;
  ends = sym (place_first no_records) ∙ place_last no_records Network (λ i l. no_records_lem i);
  least = omega arith;
  most = omega arith;
}

module _ {s : List ℕ} {at : ℕ} {x : Progress} (r : Reached s at x) where
  hyperperiod_bounds : {k : Kind} → Accepted s at x k → Versus k Task → (1 ≤ hyperperiod_with s at x k) × (hyperperiod_with s at x k ≤ 1000000000)
  hyperperiod_bounds a (same e) =
      let b = subst (Accepted s at x) e a in
      let t = task_range s at b.in_range in
      rw e (lcm_pos x.hyperperiod (period s at) r.least (omega arith), hyperperiod_small s at x b.hyperperiod_small)
  hyperperiod_bounds a (other d) = rw (ne_eqb _ _ d) (r.least, r.most)

  pub reached_next : {k : Kind} → Accepted s at x k → Reached s (at + size k) (with_record x k (hyperperiod_with s at x k))
  reached_next {k} a = record {
    counted = record { kinds = length-set x.counts (row k).order _ ∙ r.counted.kinds; few = λ j. few j (versus j k) };
    inside = a.whole;
    ends = ap (λ (n : ℕ). n + size k) r.ends ∙ sym (end_more x y k (count_other x k h) (count_same x k h r.counted.kinds));
    least = (hyperperiod_bounds a (versus k Task)).0;
    most = (hyperperiod_bounds a (versus k Task)).1;
  }
    where
      h : ℕ
      h = hyperperiod_with s at x k

      y : Progress
      y = with_record x k h

      few : (j : Kind) → Versus j k → count y j ≤ (row j).most
      few j (same e) = subst (λ (i : Kind). count y i ≤ (row i).most) (sym e) (omega (arith, count_same x k h r.counted.kinds, a.room))
      few j (other d) = omega (arith, count_other x k h j d, r.counted.few j)
