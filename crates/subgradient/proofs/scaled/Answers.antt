-- The places below k hold their scaled weights.
use mathlib.Core.Path.{ap, ◌∙◌}
use Prim.Native.Nat.{ℕ, ◌*◌, ◌/◌}
use native.Mathlib.Omega.{arith}
use borrow.Author.Rules.{rules}
use Rattle.subgradient.specs.Subgradient.{limited}
use Rattle.finite.proofs.Filling.{filled_start, filled_next, filled_end}
use Rattle.subgradient.proofs.scaled.Invariants.{new}
use Rattle.subgradient.proofs.scaled.Goals as goal

pub loop-k-init : goal.loop-k-init
loop-k-init c = (omega arith, filled_start (new c.args.weights c.args.total))

pub loop-k-preserved : goal.loop-k-preserved
loop-k-preserved c =
    let a = c.args in
    (omega arith, filled_next (new a.weights a.total) c.loop-k.invariant.1 (search rules) (c.limited.ensures ∙ ap (λ (x : ℕ). limited (x * 4194304 / a.total)) c.wide.ensures.0))

pub returns : goal.returns
returns c = let a = c.args in filled_end (new a.weights a.total) c.loop-k.invariant.1 (search rules)
