-- `put_tasks` meets its contract: the lines of the first k tasks stand there.
use mathlib.Core.Path.{◌≡◌, refl, subst, ◌∙◌}
use borrow.Author.Rules.{rules}
use lib.IntN.{ℤ}
use Rattle.std.specs.Prelude.{Option, None}
use Rattle.std.proofs.lemmas.List.{get_or_default}
use Rattle.judge.specs.Judge.{known_zero}
use native.Mathlib.Omega.{arith}
use lib.ListN.{length}
use Rattle.wire.specs.Wire.{Put}
use Rattle.text.proofs.Laws.{put_none, put_more}
use Rattle.report.proofs.put_tasks.Invariants.{line_by, line_of}
use Rattle.report.proofs.put_tasks.Goals as goal

pub loop-k-init : goal.loop-k-init
loop-k-init c =
    let a = c.args in
    (omega arith, omega arith, refl, put_none (line_of a.placement.now a.judged.responses a.judged.margins a.deadlines.now) a.text.now a.at (omega (arith, c.requires.0)))

pub loop-k-preserved : goal.loop-k-preserved
loop-k-preserved c =
    let a = c.args in
    let m = a.judged.margins in
    let k = c.loop-k.k in
    let all : length m ≡ 24 = search rules in
    let same = get_or_default m k None known_zero (omega (arith, c.loop-k-test.true, c.requires.1)) in
    let margin = λ (x : Option ℤ). line_by a.placement.now a.judged.responses x a.deadlines.now k in
    let line = subst (λ (x : Option ℤ). Put c.loop-k.text c.loop-k.end (margin x) c.task_line-end.new.text c.task_line-end.result) same c.task_line-end.ensures.0 in (
      omega arith,
      omega (arith, c.task_line-end.ensures.1),
      c.task_line-end.auto.text ∙ c.loop-k.invariant.2,
      put_more (line_of a.placement.now a.judged.responses a.judged.margins a.deadlines.now) c.loop-k.invariant.3 line,
    )

pub returns : goal.returns
returns c =
    let all : c.loop-k.k ≡ length c.args.placement.now = omega arith in
    (rw (← all) c.loop-k.invariant.3, omega (arith, c.loop-k.invariant.1, c.requires.1))
