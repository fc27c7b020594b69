-- By the tests.
use mathlib.Core.Path.{refl}
use native.Mathlib.Omega.{arith}
use borrow.Author.Tests.{lt-ltb, le-ltb}
use Rattle.subgradient.proofs.off_scale.Goals as goal

pub returns-then-total-eq0 : goal.returns-then-total-eq0
returns-then-total-eq0 c = let t = c.args.total in rw (le-ltb 0 t (omega arith)) refl

pub returns-then-total-lt2097152 : goal.returns-then-total-lt2097152
returns-then-total-lt2097152 c = let t = c.args.total in rw (lt-ltb 0 t (omega (arith, c.if-total-eq0.false)), lt-ltb t 2097152 c.if-total-lt2097152.true) refl

pub returns : goal.returns
returns c = let t = c.args.total in rw (lt-ltb 0 t (omega (arith, c.if-total-lt2097152.false)), le-ltb t 2097152 c.if-total-lt2097152.false) refl
