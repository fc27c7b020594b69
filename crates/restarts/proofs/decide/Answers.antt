-- What may stand on each processor is worked out once. The fuel grows by half until it is at least 900,000, faster than the number of runs.
use mathlib.Core.Bool.{true}
use native.Mathlib.Omega.{arith}
use borrow.Author.Rules.{rules}
use Rattle.std.specs.Prelude.{Some, None}
use Rattle.nogoods.proofs.Covers.{known_forgot}
use Rattle.restarts.proofs.Answering.{ready_prepared, decided_begin, decided_last}
use Rattle.restarts.proofs.decide.Goals as goal

pub prepare-begin-requires : goal.prepare-begin-requires
prepare-begin-requires c =
    let a = c.requires in
    ((a.0, a.1, a.2.fits, known_forgot a.3.knows c.forget.ensures _ _), search rules)

pub loop-fuel-init : goal.loop-fuel-init
loop-fuel-init c = (omega arith, omega arith, omega arith, λ t l w k. k)

pub begin_run-requires : goal.begin_run-requires
begin_run-requires c = omega arith

pub attempt-requires : goal.attempt-requires
attempt-requires c =
    let a = c.requires in
    let b = ready_prepared a.1 _ 0 true a.2 c.prepare-begin.ensures.0 in
    (a.0, a.1, b, c.loop-fuel.invariant.3 a.0 a.1 b (record { knows = (c.prepare-begin.ensures.1 a.0 a.1 a.2.fits (known_forgot a.3.knows c.forget.ensures _ _)).late; keeps = a.3.keeps }))

pub returns-in-Found : goal.returns-in-Found
returns-in-Found c =
    λ t l w k. let b = ready_prepared l _ 0 true w c.prepare-begin.ensures.0 in
    let y = c.in-Found.ensures t l b (c.loop-fuel.invariant.3 t l b (record { knows = (c.prepare-begin.ensures.1 t l w.fits (known_forgot k.knows c.forget.ensures _ _)).late; keeps = k.keeps })) in
    (decided_begin t c.args.s _ c.prepare-begin.ensures.0 (Some c.in-Found.on) y.0, y.1)

pub returns-in-Nothing : goal.returns-in-Nothing
returns-in-Nothing c =
    λ t l w k. let b = ready_prepared l _ 0 true w c.prepare-begin.ensures.0 in
    let y = c.in-Nothing.ensures t l b (c.loop-fuel.invariant.3 t l b (record { knows = (c.prepare-begin.ensures.1 t l w.fits (known_forgot k.knows c.forget.ensures _ _)).late; keeps = k.keeps })) in
    (decided_begin t c.args.s _ c.prepare-begin.ensures.0 None y.0, y.1)

pub loop-fuel-preserved : goal.loop-fuel-preserved
loop-fuel-preserved c =
    let v = c.loop-fuel.invariant in (
      omega (arith, v.0),
      omega (arith, c.loop-fuel-test.true),
      omega (arith, v.0, v.2),
      λ t l w k. (c.attempt.ensures t l w (v.3 t l w k)).1,
    )

pub begin_run-requires-2 : goal.begin_run-requires-2
begin_run-requires-2 c = omega arith

pub attempt-requires-2 : goal.attempt-requires-2
attempt-requires-2 c =
    let a = c.requires in
    let b = ready_prepared a.1 _ 0 true a.2 c.prepare-begin.ensures.0 in
    (a.0, a.1, b, c.loop-fuel.invariant.3 a.0 a.1 b (record { knows = (c.prepare-begin.ensures.1 a.0 a.1 a.2.fits (known_forgot a.3.knows c.forget.ensures _ _)).late; keeps = a.3.keeps }))

pub returns-in-Found-attempt : goal.returns-in-Found-attempt
returns-in-Found-attempt c =
    λ t l w k. let b = ready_prepared l _ 0 true w c.prepare-begin.ensures.0 in
    let y = c.in-Found-attempt.ensures t l b (c.loop-fuel.invariant.3 t l b (record { knows = (c.prepare-begin.ensures.1 t l w.fits (known_forgot k.knows c.forget.ensures _ _)).late; keeps = k.keeps })) in
    (decided_begin t c.args.s _ c.prepare-begin.ensures.0 (Some c.in-Found-attempt.on) y.0, y.1)

pub returns-in_default : goal.returns-in_default
returns-in_default c =
    λ t l w k. let b = ready_prepared l _ 0 true w c.prepare-begin.ensures.0 in
    let y = c.attempt-2.ensures t l b (c.loop-fuel.invariant.3 t l b (record { knows = (c.prepare-begin.ensures.1 t l w.fits (known_forgot k.knows c.forget.ensures _ _)).late; keeps = k.keeps })) in
    (decided_begin t c.args.s _ c.prepare-begin.ensures.0 None (decided_last t _ c.attempt-2.result y.0 c.in_default.not-Found), y.1)
