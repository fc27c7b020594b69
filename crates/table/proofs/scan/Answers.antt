-- `scan` meets its contract. Assumes nothing.
use mathlib.Core.Path.{◌≡◌, refl, sym, ap, subst, ◌∙◌}
use borrow.Author.Rules.{rules}
use native.Mathlib.Omega.{arith}
use Rattle.std.specs.Prelude.{Result, Ok, Err, MatchResult}
use Rattle.std.specs.Result.{IsErrAnd}
use Rattle.layout.specs.declared.Shape.{Shape}
use Rattle.std.proofs.lemmas.Result.{err_from_is_err_and}
use Rattle.verdict.specs.declared.Cause.{Cause}
use Rattle.verdict.specs.declared.Taken.{Taken}
use Rattle.table.specs.declared.Refusal.{Refusal}
use Rattle.table.specs.Refusal.{refusal}
use Rattle.table.proofs.Scanning.{scan_start, scan_next, scan_refused, scan_end}
use Rattle.verdict.proofs.Acceptance.{accepted}
use Rattle.table.proofs.scan.Goals as goal

-- a verdict with the place beside its cause
abbrev Placed : (Cause → Refusal → Type 0) → Result Taken Cause → Result Taken Refusal → Type 0
Placed P v r = MatchResult v (λ x. r ≡ Ok x) (λ e. IsErrAnd r (P e))

placed_ok : (P : Cause → Refusal → Type 0) (v : Result Taken Cause) (r : Result Taken Refusal) {t : Taken} → Placed P v r → r ≡ Ok t → v ≡ Ok t
placed_ok P (Ok x) r m e = cc
placed_ok P (Err d) (Ok x) m e = absurd m
placed_ok P (Err d) (Err y) m e = cc

placed_err : (P : Cause → Refusal → Type 0) (v : Result Taken Cause) (r : Result Taken Refusal) {y : Refusal} → Placed P v r → r ≡ Err y → (d : Cause) × (v ≡ Err d) × P d y
placed_err P (Ok x) r m e = cc
placed_err P (Err d) (Ok x) m e = absurd m
placed_err P (Err d) (Err z) {y} m e = let same : z ≡ y = cc in (d, refl, subst (P d) same m)

pub loop-at-init : goal.loop-at-init
loop-at-init c = rw c.no_records-x.ensures (scan_start _)

pub verdict_at-requires : goal.verdict_at-requires
verdict_at-requires c = c.loop-at.invariant.reached

pub returns-in_err-taken : goal.returns-in_err-taken
returns-in_err-taken c =
    let p = err_from_is_err_and c.from_residual.result c.from_residual.ensures.1 in
    let r = placed_err _ _ _ c.map_err.ensures.cases c.in_err-taken.was in
    let q : c.in_err-taken.field-0.0 ≡ refusal r.0 c.loop-at.at = search rules in
    rw (p.1, p.2, q) (sym (scan_refused c.loop-at.invariant c.loop-at-test.true (sym c.verdict_at.ensures ∙ r.1)))

pub with_record-x-requires : goal.with_record-x-requires
with_record-x-requires c =
    let e = sym c.verdict_at.ensures ∙ placed_ok _ _ _ c.map_err.ensures.cases c.in_ok-taken.was in
    (c.loop-at.invariant.reached.counted, (accepted _ _ _ e).0.room)

pub overflow_add-at : goal.overflow_add-at
overflow_add-at c =
    let e = sym c.verdict_at.ensures ∙ placed_ok _ _ _ c.map_err.ensures.cases c.in_ok-taken.was in
    omega (arith, ap (λ (z : Shape). z.size) c.shape_of-shape.ensures, (accepted _ _ _ e).0.whole)

pub loop-at-smaller : goal.loop-at-smaller
loop-at-smaller c =
    omega (arith, ap (λ (z : Shape). z.size) c.shape_of-shape.ensures, c.loop-at-test.true)

pub loop-at-preserved : goal.loop-at-preserved
loop-at-preserved c =
    let e = sym c.verdict_at.ensures ∙ placed_ok _ _ _ c.map_err.ensures.cases c.in_ok-taken.was in
    rw (ap (λ (z : Shape). z.size) c.shape_of-shape.ensures, c.with_record-x.ensures) (scan_next c.loop-at.invariant c.loop-at-test.true e)

pub returns : goal.returns
returns c = c.at_end.ensures ∙ sym (scan_end c.loop-at.invariant c.loop-at-test.false)
