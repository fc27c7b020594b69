-- `put_loads` meets its contract: the lines of the first p processors stand there.
use mathlib.Core.Path.{◌≡◌, refl, subst, ◌∙◌}
use Prim.Native.Nat.{ℕ}
use native.Mathlib.Omega.{arith}
use Rattle.rules.proofs.Bounds.{some_tick}
use Rattle.wire.specs.Wire.{Put, pieces}
use Rattle.text.proofs.Laws.{put_none, put_more}
use Rattle.lines.specs.Lines.{load_line}
use Rattle.report.specs.Report.{thousandths}
use Rattle.report.proofs.put_loads.Goals as goal

pub loop-p-init : goal.loop-p-init
loop-p-init c =
    let a = c.args in
    (omega arith, omega arith, refl, put_none (λ j. load_line j (thousandths a.table a.placement.now j)) a.text.now a.at (omega (arith, c.requires.0)))

pub load_on-load-requires : goal.load_on-load-requires
load_on-load-requires c = (c.requires.1, c.requires.2)

pub thousandths-requires : goal.thousandths-requires
thousandths-requires c = (some_tick c.requires.1, c.load_on-load.ensures.1)

pub load_line-end-requires : goal.load_line-end-requires
load_line-end-requires c =
    omega (arith, c.requires.0, c.requires.1.processors.most, c.loop-p.invariant.1, c.loop-p-test.true)

pub loop-p-preserved : goal.loop-p-preserved
loop-p-preserved c =
    let a = c.args in (
      omega arith,
      omega (arith, c.load_line-end.ensures.1),
      c.load_line-end.auto.text ∙ c.loop-p.invariant.2,
      put_more (λ j. load_line j (thousandths a.table a.placement.now j)) c.loop-p.invariant.3 (rw (← c.load_on-load.ensures.0, ← c.thousandths.ensures) c.load_line-end.ensures.0),
    )

pub returns : goal.returns
returns c =
    let all : c.loop-p.p ≡ c.args.table.processors.count = omega (arith, c.loop-p-test.false, c.loop-p.invariant.0) in
    let a = c.args in (
      subst (λ (n : ℕ). Put a.text.now a.at (pieces n (λ j. load_line j (thousandths a.table a.placement.now j))) c.loop-p.text c.loop-p.end) all c.loop-p.invariant.3,
      omega (arith, c.loop-p.invariant.0, c.loop-p.invariant.1, c.requires.1.processors.most),
    )
