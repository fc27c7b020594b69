-- `put_conflicts` meets its contract: the lines of the first j conflicts stand there.
use mathlib.Core.Path.{◌≡◌, refl, ◌∙◌}
use native.Mathlib.Omega.{arith}
use Rattle.text.proofs.Laws.{put_none, put_more}
use Rattle.answer.specs.Answer.{mask_at}
use Rattle.lines.specs.Lines.{conflict_line}
use Rattle.report.proofs.put_conflicts.Goals as goal

pub loop-j-init : goal.loop-j-init
loop-j-init c = let a = c.args in (omega arith, omega arith, refl, put_none (λ i. conflict_line a.n (mask_at a.list.now i)) a.text.now a.at (omega (arith, c.requires.0)))

pub loop-j-preserved : goal.loop-j-preserved
loop-j-preserved c =
    let a = c.args in (
      omega arith,
      omega (arith, c.conflict_line-end.ensures.1),
      c.conflict_line-end.auto.text ∙ c.loop-j.invariant.2,
      put_more (λ i. conflict_line a.n (mask_at a.list.now i)) c.loop-j.invariant.3 (rw (← c.mask_at.ensures) c.conflict_line-end.ensures.0),
    )

pub returns : goal.returns
returns c =
    let a = c.args in
    let all : c.loop-j.j ≡ a.count = omega arith in
    (rw (← all) c.loop-j.invariant.3, omega (arith, c.loop-j.invariant.1))
