-- `conflict_line` meets its contract: behind the word stand the members below k.
use mathlib.Core.Path.{◌≡◌, refl, ◌∙◌}
use native.Mathlib.Omega.{arith}
use borrow.Author.Rules.{rules}
use Rattle.wire.proofs.Put.{put_then}
use Rattle.text.proofs.Laws.{put_none, put_more}
use Rattle.lines.specs.Lines.{member}
use Rattle.lines.proofs.conflict_line.Goals as goal

pub loop-k-init : goal.loop-k-init
loop-k-init c =
    (omega arith, omega arith, refl, put_none (member c.args.mask) c.put-end.new.text c.put-end.result (search rules))

pub loop-k-preserved : goal.loop-k-preserved
loop-k-preserved c =
    (omega arith, omega arith, c.put_member-end.auto.text ∙ c.loop-k.invariant.2, put_more (member c.args.mask) c.loop-k.invariant.3 c.put_member-end.ensures.0)

pub returns : goal.returns
returns c =
    let a = c.args in
    let all : c.loop-k.k ≡ a.n = omega arith in
    (rw (← all) (put_then (put_then c.put-end.ensures c.loop-k.invariant.3) c.put.ensures), omega (arith, c.put-end.ensures.ends, c.put.ensures.ends))
