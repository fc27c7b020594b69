-- By the tests.
use mathlib.Core.Path.{refl}
use native.Mathlib.Omega.{arith}
use borrow.Author.Tests.{lt-ltb, le-ltb}
use Rattle.bound.proofs.credit.Goals as goal

pub returns-then-before-gt377 : goal.returns-then-before-gt377
returns-then-before-gt377 c = rw (c.if-hopeless.true, lt-ltb _ _ c.if-before-gt377.true) refl

pub returns-then-hopeless : goal.returns-then-hopeless
returns-then-hopeless c = rw (c.if-hopeless.true, le-ltb _ _ c.if-before-gt377.false) refl

pub returns-then-before-eq0 : goal.returns-then-before-eq0
returns-then-before-eq0 c = rw c.if-hopeless.false (omega arith)

pub returns : goal.returns
returns c = rw c.if-hopeless.false refl
