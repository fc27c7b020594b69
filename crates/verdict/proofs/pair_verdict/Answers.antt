-- `pair_verdict` meets its contract. Assumes nothing.
use mathlib.Core.Path.{sym, ap, ◌∙◌}
use mathlib.Core.Bool.{not}
use native.Mathlib.Omega.{arith}
use borrow.Author.Tests.{eq-eqb, ne_eqb}
use Rattle.verdict.proofs.Passed.{pair_known}
use Rattle.verdict.proofs.Tests.{periods_by, message_by}
use Rattle.verdict.proofs.pair_verdict.Goals as goal

pub returns-then-bad_pair : goal.returns-then-bad_pair
returns-then-bad_pair c = simp (← c.byte_at-from.ensures.0, ← c.byte_at-to.ensures.0, sym c.bad_pair.ensures ∙ c.if-bad_pair.true)

pub period_of-requires : goal.period_of-requires
period_of-requires c = (c.requires.0.counted, omega (arith, c.requires.0.ends, c.requires.0.inside), (pair_known _ _ _ (sym c.bad_pair.ensures ∙ c.if-bad_pair.false)).0)

pub period_of-requires-2 : goal.period_of-requires-2
period_of-requires-2 c =
    (c.requires.0.counted, omega (arith, c.requires.0.ends, c.requires.0.inside), (pair_known _ _ _ (sym c.bad_pair.ensures ∙ c.if-bad_pair.false)).1)

pub returns-then-period_of : goal.returns-then-period_of
returns-then-period_of c =
    let a = c.args in
    let from = c.byte_at-from.ensures.0 in
    let to = c.byte_at-to.ensures.0 in
    simp (
      ← from,
      ← to,
      sym c.bad_pair.ensures ∙ c.if-bad_pair.false,
      periods_by a.file.now a.at a.x from to c.period_of.ensures c.period_of-2.ensures ∙ ap not (ne_eqb _ _ c.if-period_of.true),
    )

pub repeated-requires : goal.repeated-requires
repeated-requires c = (c.requires.0, c.requires.1, omega arith)

pub returns-then-repeated : goal.returns-then-repeated
returns-then-repeated c =
    let a = c.args in
    let from = c.byte_at-from.ensures.0 in
    let to = c.byte_at-to.ensures.0 in
    simp (
      ← from,
      ← to,
      sym c.bad_pair.ensures ∙ c.if-bad_pair.false,
      periods_by a.file.now a.at a.x from to c.period_of.ensures c.period_of-2.ensures ∙ ap not (eq-eqb _ _ c.if-period_of.false),
      message_by a.file.now a.at a.x (λ k. (c.shared_slice_known-1.given k).fits) c.repeated.ensures ∙ c.if-repeated.true,
    )

pub returns : goal.returns
returns c =
    let a = c.args in
    let from = c.byte_at-from.ensures.0 in
    let to = c.byte_at-to.ensures.0 in
    simp (
      ← from,
      ← to,
      sym c.bad_pair.ensures ∙ c.if-bad_pair.false,
      periods_by a.file.now a.at a.x from to c.period_of.ensures c.period_of-2.ensures ∙ ap not (eq-eqb _ _ c.if-period_of.false),
      message_by a.file.now a.at a.x (λ k. (c.shared_slice_known-1.given k).fits) c.repeated.ensures ∙ c.if-repeated.false,
    )
