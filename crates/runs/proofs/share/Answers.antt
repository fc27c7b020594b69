-- By the tests.
use mathlib.Core.Path.{refl}
use borrow.Author.Rules.{rules}
use borrow.Author.Tests.{lt-ltb, le-ltb}
use Rattle.runs.specs.Runs.{share_of}
use Rattle.runs.proofs.share.Goals as goal

pub is_weighted-requires : goal.is_weighted-requires
unfolding share_of
is_weighted-requires c = search rules

pub returns-then-is_weighted : goal.returns-then-is_weighted
unfolding share_of
returns-then-is_weighted c = rw (← c.is_weighted.ensures, c.if-is_weighted.true) refl

pub returns-then-run-lt2 : goal.returns-then-run-lt2
unfolding share_of
returns-then-run-lt2 c = rw (← c.is_weighted.ensures, c.if-is_weighted.false, lt-ltb _ _ c.if-run-lt2.true) refl

pub returns : goal.returns
unfolding share_of
returns c = rw (← c.is_weighted.ensures, c.if-is_weighted.false, le-ltb _ _ c.if-run-lt2.false) refl
