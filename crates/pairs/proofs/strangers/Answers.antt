-- The tasks are tried one by one, and those that stand apart are counted.
use mathlib.Core.Logic.{⊎_elim}
use mathlib.Core.Path.{refl}
use Prim.Native.Nat.{◌-◌}
use native.Mathlib.Omega.{arith}
use borrow.Author.Rules.{rules}
use Rattle.finite.proofs.SumLoop.{summing_start, summing_in, summing_out, summing_end}
use Rattle.pairs.specs.Pairs.{apart, strangers_of}
use Rattle.pairs.proofs.strangers.Goals as goal

pub loop-j-init : goal.loop-j-init
unfolding strangers_of
loop-j-init c = summing_start

pub apart-requires : goal.apart-requires
unfolding strangers_of
apart-requires c = search rules

pub loop-j-preserved : goal.loop-j-preserved
unfolding strangers_of
loop-j-preserved c =
    ⊎_elim
    (λ w. rw w.count-is (summing_in c.loop-j.invariant c.loop-j-test.true (rw c.apart.ensures at w.if-apart.true) refl (omega arith)))
    (λ w. rw w.count-is (summing_out c.loop-j.invariant c.loop-j-test.true (rw c.apart.ensures at w.if-apart.false)))
    c.if-apart.branch-raw

pub returns : goal.returns
unfolding strangers_of
returns c = (summing_end c.loop-j.invariant c.loop-j-test.false, search rules)
