-- No number passed so far passes the test.
use mathlib.Core.Path.{sym, ◌∙◌}
use Prim.Native.Nat.{◌+◌}
use native.Mathlib.Omega.{arith}
use Rattle.finite.proofs.Search.{search_start, search_next, search_found, search_missed}
use Rattle.answer.proofs.first_in.Goals as goal

pub loop-i-init : goal.loop-i-init
loop-i-init g c = λ p w. search_start

pub returns-then-test-clause-first : goal.returns-then-test-clause-first
returns-then-test-clause-first g c =
    λ p w. sym (search_found (c.loop-i.invariant p w) (omega arith) (sym (w (c.args.j + c.loop-i.i) (omega arith) _ c.test.ensures) ∙ c.if-test.true))

pub loop-i-preserved : goal.loop-i-preserved
loop-i-preserved g c =
    λ p w. search_next (c.loop-i.invariant p w) (omega arith) (sym (w (c.args.j + c.loop-i.i) (omega arith) _ c.test.ensures) ∙ c.if-test.false)

pub returns-clause-first : goal.returns-clause-first
returns-clause-first g c = λ p w. sym (search_missed (c.loop-i.invariant p w) (omega arith))
