-- The tests are made one after the other, and the first that passes decides.
use borrow.Author.Rules.{rules}
use borrow.Author.Tests.{eq-eqb, ne_eqb}
use Rattle.pairs.specs.Pairs.{apart}
use Rattle.pairs.proofs.apart.Goals as goal

pub returns-then-i-j : goal.returns-then-i-j
unfolding apart
returns-then-i-j c = rw (eq-eqb _ _ c.if-i-j.true)

pub has-requires : goal.has-requires
unfolding apart
has-requires c = search rules

pub returns-then-has : goal.returns-then-has
unfolding apart
returns-then-has c = rw (ne_eqb _ _ c.if-i-j.false, rw c.has.ensures at c.if-has.true)

pub nowhere-requires : goal.nowhere-requires
unfolding apart
nowhere-requires c = search rules

pub returns-then-nowhere : goal.returns-then-nowhere
unfolding apart
returns-then-nowhere c =
    rw (ne_eqb _ _ c.if-i-j.false, rw c.has.ensures at c.if-has.false, rw c.nowhere.ensures at c.if-nowhere.true)

pub late_pair-requires : goal.late_pair-requires
unfolding apart
late_pair-requires c = search rules

pub returns : goal.returns
unfolding apart
returns c =
    rw (ne_eqb _ _ c.if-i-j.false, rw c.has.ensures at c.if-has.false, rw c.nowhere.ensures at c.if-nowhere.false) c.late_pair.ensures
