-- `repeated` meets its contract. Assumes nothing.
use mathlib.Core.Path.{◌≡◌, sym, ◌∙◌}
use mathlib.Core.List.{List}
use Prim.Native.Nat.{ℕ, ◌+◌, ◌≤◌, ◌<◌}
use native.Mathlib.Omega.{arith}
use borrow.Author.Count.{below_none, below_more}
use borrow.Author.Tests.{eq-eqb, ne_eqb}
use lib.ListN.{length}
use Rattle.finite.proofs.Some.{some_true, some_false}
use Rattle.layout.specs.declared.Kind.{Kind}
use Rattle.layout.specs.declared.Progress.{Progress}
use Rattle.layout.specs.declared.Series.{Series}
use Rattle.layout.specs.Format.{size, count, series_of, place_in, longest}
use Rattle.layout.proofs.Places.{place_within, end_most}
use Rattle.verdict.specs.Reached.{Reached}
use Rattle.verdict.proofs.Inside.{record_in}
use Rattle.verdict.proofs.repeated.Goals as goal

-- record j lies within the file
room : {s : List ℕ} {at : ℕ} {x : Progress} → Reached s at x → (k : Kind) (j : ℕ) {r : Series} {n : ℕ} → r ≡ series_of x k → n ≡ count x k → j < n → (place_in r j + size k ≤ length s) × (place_in r j ≤ longest)
room {x = x} r k j e d l =
    let m : j < count x k = omega arith in
    rw e (record_in r k j m, omega (arith, place_within x k j m, end_most x r.counted))

pub overflow_add-at : goal.overflow_add-at
overflow_add-at c = omega arith

pub half_at-sought-requires : goal.half_at-sought-requires
half_at-sought-requires c = omega arith

pub loop-j-init : goal.loop-j-init
loop-j-init c = (omega arith, c.half_at-sought.ensures.0, below_none _)

pub place_in-requires : goal.place_in-requires
place_in-requires c =
    (room c.requires.0 c.args.kind c.loop-j.j c.series_of-series.ensures c.count_of-n.ensures c.loop-j-test.true).1

pub overflow_add-place_in : goal.overflow_add-place_in
overflow_add-place_in c =
    omega (
      arith,
      c.place_in.ensures,
      room c.requires.0 c.args.kind c.loop-j.j c.series_of-series.ensures c.count_of-n.ensures c.loop-j-test.true,
    )

pub half_at-requires : goal.half_at-requires
half_at-requires c =
    omega (
      arith,
      c.place_in.ensures,
      room c.requires.0 c.args.kind c.loop-j.j c.series_of-series.ensures c.count_of-n.ensures c.loop-j-test.true,
    )

pub returns-then-half_at-sought : goal.returns-then-half_at-sought
returns-then-half_at-sought c =
    let e = rw (c.place_in.ensures, c.series_of-series.ensures) at c.half_at.ensures.0 in
    sym (some_true _ _ c.loop-j.j (omega (arith, c.loop-j-test.true, c.count_of-n.ensures)) (eq-eqb _ _ (sym e ∙ c.if-half_at-sought.true ∙ c.loop-j.invariant.1)))

pub loop-j-preserved : goal.loop-j-preserved
loop-j-preserved c =
    let e = rw c.place_in.ensures at c.half_at.ensures.0 in
    (omega arith, c.loop-j.invariant.1, below_more _ _ c.loop-j.invariant.2 (ne_eqb _ _ (λ d. c.if-half_at-sought.false (e ∙ d ∙ sym c.loop-j.invariant.1))))

pub returns : goal.returns
returns c =
    sym (some_false _ _ (λ k m. rw c.series_of-series.ensures at (c.loop-j.invariant.2 k (omega (arith, c.count_of-n.ensures)))))
