-- What a verdict says of a record that is taken: it passed every test, and its mark stands at its place. Assumes nothing.
use mathlib.Core.Path.{◌≡◌, refl, sym, ap, subst}
use mathlib.Core.Bool.{Bool, true, false}
use mathlib.Core.List.{List, [], ◌∷◌}
use Prim.Native.Nat.{ℕ, ◌+◌}
use native.Mathlib.Omega.{arith}
use borrow.Author.Tests.{ltb-false, leb-false}
use lib.ListN.{length}
use Rattle.std.specs.Prelude.{Option, Some, None, Result}
use Rattle.wire.specs.Wire.{mark_at}
use Rattle.layout.specs.declared.Kind.{Kind}
use Rattle.verdict.specs.declared.Cause.{Cause}
use Rattle.verdict.specs.declared.Taken.{Taken}
use Rattle.layout.specs.declared.Progress.{Progress}
use Rattle.layout.specs.Format.{row, size, count}
use Rattle.verdict.specs.Faults.{mark_cut, record_cut, out_of_order, too_many, out_of_range, not_in_file, priority_used, periods_differ, message_repeated, hyperperiod_too_large, hyperperiod_with, refuse, taken, content_verdict, record_verdict, mark_verdict, verdict}
use Rattle.layout.specs.Format.{kinds, first_mark, marked_of, kind_at}
use Rattle.verdict.proofs.Accepted.{Accepted}

-- a test that does not refuse
passed : (b : Bool) (c : Cause) (v : Result Taken Cause) {k : Kind} {h : ℕ} → refuse b c v ≡ taken k h → (b ≡ false) × (v ≡ taken k h)
passed true c v e = (cc, cc)
passed false c v e = (refl, e)

-- every test in turn
pub accepted : (s : List ℕ) (at : ℕ) (x : Progress) {k : Kind} {h : ℕ} → verdict s at x ≡ taken k h → Accepted s at x k × (h ≡ hyperperiod_with s at x k)
unfolding verdict record_verdict content_verdict record_cut out_of_order too_many
accepted s at x {k} {h} e = go (kind_at s at) refl (passed (mark_cut s at) _ _ e).1
  where
    go : (m : Option Kind) → kind_at s at ≡ m → mark_verdict s at x m ≡ taken k h → Accepted s at x k × (h ≡ hyperperiod_with s at x k)
    go None p r = absurd (let z : ◌≡◌ {A = ℕ} 0 1 = cc in omega arith)
    go (Some j) p r =
        let whole = passed (record_cut s at j) _ _ r in
        let order = passed (out_of_order x j) _ _ whole.1 in
        let room = passed (too_many x j) _ _ order.1 in
        let range = passed (out_of_range s at j) _ _ room.1 in
        let known = passed (not_in_file s at x j) _ _ range.1 in
        let priority = passed (priority_used s at x j) _ _ known.1 in
        let periods = passed (periods_differ s at x j) _ _ priority.1 in
        let message = passed (message_repeated s at x j) _ _ periods.1 in
        let hyperperiod = passed (hyperperiod_too_large s at x j) _ _ message.1 in
        let all : Accepted s at x j = record {
          marked = p;
          whole = ltb-false (length s) (at + size j) whole.0;
          in_order = ltb-false (row j).order x.next order.0;
          room = leb-false (row j).most (count x j) room.0;
          in_range = range.0;
          in_file = known.0;
          priority_new = priority.0;
          periods_equal = periods.0;
          message_new = message.0;
          hyperperiod_small = hyperperiod.0;
        } in
        let same : ◌≡◌ {A = Taken} (record { kind = j; hyperperiod = hyperperiod_with s at x j }) (record { kind = k; hyperperiod = h }) = cc hyperperiod.1 in
        let kind : j ≡ k = ap (λ (t : Taken). t.kind) same in
        (subst (λ (i : Kind). Accepted s at x i) kind all, subst (λ (i : Kind). h ≡ hyperperiod_with s at x i) kind (sym (ap (λ (t : Taken). t.hyperperiod) same)))

-- a kind is read where its mark stands
pub kind_marked : (s : List ℕ) (at : ℕ) {k : Kind} → kind_at s at ≡ Some k → mark_at s at (row k).mark ≡ true
unfolding kind_at
kind_marked s at {k} = of_list kinds
  where
    first : (j : Kind) (m : Option Kind) (b : Bool) → mark_at s at (row j).mark ≡ b → (m ≡ Some k → mark_at s at (row k).mark ≡ true) → first_mark b j m ≡ Some k → mark_at s at (row k).mark ≡ true
    first j m true p later e = cc
    first j m false p later e = later e

    of_list : (l : List Kind) → marked_of l s at ≡ Some k → mark_at s at (row k).mark ≡ true
    of_list [] e = cc
    of_list (j ∷ l) e = first j (marked_of l s at) (mark_at s at (row j).mark) refl (of_list l) e
