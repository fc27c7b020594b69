-- `placement_of` meets its contract. Assumes nothing.
use mathlib.Core.Path.{◌≡◌}
use native.Mathlib.Omega.{arith}
use borrow.Author.Rules.{rules}
use Rattle.table.proofs.FilledUp.{column_start, column_next}
use Rattle.rules.proofs.placement_of.Goals as goal

pub loop-k-init : goal.loop-k-init
loop-k-init c = (omega arith, column_start 24 _)

pub loop-k-preserved : goal.loop-k-preserved
loop-k-preserved c = (omega arith, column_next _ c.loop-k.invariant.1 (search rules) c.processor_of.ensures)

pub returns : goal.returns
returns c =
    let l = c.loop-k in
    let all : l.k ≡ c.args.n = omega arith in
    rw all at l.invariant.1
