-- By the tests. The products are at most those of the factors' limits.
use mathlib.Core.Path.{refl, ◌∙◌}
use Prim.Native.Nat.{◌*◌, ◌≤◌}
use native.Mathlib.Omega.{arith}
use native.Mathlib.Nat.{mul-le-mul, div-le_self}
use borrow.Author.Tests.{lt-ltb, le-ltb}
use Rattle.subgradient.specs.Subgradient.{distance, change_of}
use Rattle.subgradient.proofs.Laws.{distance_small}
use Rattle.subgradient.proofs.moved_weight.Lts as lts
use Rattle.subgradient.proofs.moved_weight.Reads as reads
use Rattle.subgradient.proofs.moved_weight.Tie as tie
use Rattle.subgradient.proofs.moved_weight.Goals as goal

product : (c : lts.After-distance tie.the-claims reads.Pre reads.Post) → c.args.stride * c.distance.result ≤ 825149116716 * 1792
product c = let z = c.requires in mul-le-mul {m₂ = 1792} z.1 (rw c.distance.ensures (distance_small _ z.0))

change : (c : lts.After-wide tie.the-claims reads.Pre reads.Post) → change_of c.args.direction c.args.stride c.args.norm ≤ 825149116716 * 1792 * 256
change c = omega (arith, rw c.distance.ensures at (product c.before), div-le_self (c.args.stride * distance c.args.direction * 256) c.args.norm)

pub overflow_mul-change : goal.overflow_mul-change
overflow_mul-change c = omega (arith, product c)

pub overflow_mul-change-2 : goal.overflow_mul-change-2
overflow_mul-change-2 c = omega (arith, product c)

pub overflow_add-before : goal.overflow_add-before
overflow_add-before c = rw c.distance.ensures (omega (arith, c.wide-before.ensures.1, change c.before))

pub returns-then-direction-lt256 : goal.returns-then-direction-lt256
returns-then-direction-lt256 c = c.limited.ensures ∙ rw (c.wide-before.ensures.0, c.distance.ensures, lt-ltb _ 256 c.if-direction-lt256.true) refl

pub returns-then-before-change : goal.returns-then-before-change
returns-then-before-change c =
    rw (le-ltb _ 256 c.if-direction-lt256.false) (omega (arith, rw (c.wide-before.ensures.0, c.distance.ensures) at c.if-before-change.true))

pub returns : goal.returns
returns c =
    c.limited-2.ensures ∙ rw (c.wide-before.ensures.0, c.distance.ensures, le-ltb _ 256 c.if-direction-lt256.false) refl
