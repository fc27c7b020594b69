-- By the tests.
use mathlib.Core.Path.{refl}
use native.Mathlib.Omega.{arith}
use native.Mathlib.Nat.{mul-le-mul}
use borrow.Author.Rules.{rules}
use borrow.Author.Tests.{lt-ltb, le-ltb}
use Rattle.descent.specs.Descent.{ends_of}
use Rattle.descent.proofs.ends.Goals as goal

pub returns-then-pace-descent : goal.returns-then-pace-descent
unfolding ends_of
returns-then-pace-descent c = rw (lt-ltb _ _ c.if-pace-descent.true) refl

pub returns-then-descent-lt2 : goal.returns-then-descent-lt2
unfolding ends_of
returns-then-descent-lt2 c = rw (le-ltb _ _ c.if-pace-descent.false, lt-ltb _ _ c.if-descent-lt2.true) refl

pub returns-then-descent : goal.returns-then-descent
unfolding ends_of
returns-then-descent c = rw (le-ltb _ _ c.if-pace-descent.false, le-ltb _ _ c.if-descent-lt2.false, c.if-descent.true) refl

pub total-requires : goal.total-requires
unfolding ends_of
total-requires c = search rules

pub overflow_mul-result : goal.overflow_mul-result
unfolding ends_of
overflow_mul-result c =
    let z = c.requires in
    omega (arith, mul-le-mul {m₂ = 103079215080} z.0 c.total.ensures.1)

pub returns : goal.returns
unfolding ends_of
returns c =
    rw (le-ltb _ _ c.if-pace-descent.false, le-ltb _ _ c.if-descent-lt2.false, c.if-descent.false, c.total.ensures.0) refl
