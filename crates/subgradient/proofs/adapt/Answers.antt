-- Each part by its own equation.
use mathlib.Core.Path.{◌≡◌, refl, sym, ap, ap₂, ◌∙◌}
use mathlib.Core.Bool.{Bool, true, false}
use mathlib.Core.List.{List}
use Prim.Native.Nat.{ℕ}
use native.Mathlib.Omega.{arith}
use Rattle.subgradient.specs.declared.Adapted.{Adapted}
use Rattle.subgradient.specs.Subgradient.{AtMost, counts_of, direction_of, step_of}
use Rattle.subgradient.proofs.Laws.{counts_small, direction_small, adapt_still, adapt_moves}
use Rattle.subgradient.proofs.adapt.Lts as lts
use Rattle.subgradient.proofs.adapt.Reads as reads
use Rattle.subgradient.proofs.adapt.Tie as tie
use Rattle.subgradient.proofs.adapt.Goals as goal

-- the direction, and its bound
direction : (c : lts.After-direction tie.the-claims reads.Pre reads.Post) → let a = c.args in c.direction-direction.result ≡ direction_of a.first a.before (counts_of a.sets a.m)
direction c = c.direction-direction.ensures ∙ rw c.counts.ensures

small : (c : lts.After-direction tie.the-claims reads.Pre reads.Post) → AtMost 2048 c.direction-direction.result
small c =
    let a = c.args in
    rw (direction c) (direction_small a.first a.before (counts_of a.sets a.m) c.requires.0 (counts_small a.sets a.m 8 c.requires.1))

-- the weights, where they move
weights : (c : lts.After-rescaled tie.the-claims reads.Pre reads.Post) → let a = c.args in
    c.rescaled-next.result ≡ step_of a.weights (direction_of a.first a.before (counts_of a.sets a.m)) a.left a.gap a.alpha
weights c =
    c.rescaled-next.ensures ∙ rw (c.moved.ensures, c.stride-stride.ensures.0, c.total.ensures.0, c.norm-norm.ensures, direction c.before.before.before.before.before.before.before) refl

-- what a step hands back
abbrev made : Bool → List ℕ → List ℕ → Adapted
made still w d = record { weights = w; direction = d; still = still }

pub direction-direction-requires : goal.direction-direction-requires
direction-direction-requires c = (c.requires.0, rw c.counts.ensures (counts_small c.args.sets c.args.m 8 c.requires.1))

pub norm-norm-requires : goal.norm-norm-requires
norm-norm-requires c = (c.requires.2, small c)

pub returns-then-norm-eq0 : goal.returns-then-norm-eq0
returns-then-norm-eq0 c =
    let a = c.args in
    ap (made true a.weights) (direction c.before.before) ∙ adapt_still a.weights a.before a.first a.sets a.m a.left a.gap a.alpha (rw (direction c.before.before) at (sym c.norm-norm.ensures ∙ c.if-norm-eq0.true))

pub moved-requires : goal.moved-requires
moved-requires c =
    (c.requires.2, small c.before.before.before.before.before, c.stride-stride.ensures.1, omega (arith, c.if-norm-eq0.false))

pub returns : goal.returns
returns c =
    let a = c.args in
    ap₂ (made false) (weights c) (direction c.before.before.before.before.before.before.before) ∙ adapt_moves a.weights a.before a.first a.sets a.m a.left a.gap a.alpha (rw (c.norm-norm.ensures, direction c.before.before.before.before.before.before.before) at c.if-norm-eq0.false)
