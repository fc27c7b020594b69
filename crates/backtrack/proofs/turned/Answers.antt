-- By the test.
use mathlib.Core.Path.{refl}
use mathlib.Core.Logic.{inl, inr}
use borrow.Author.Rules.{rules}
use Rattle.backtrack.proofs.turned.Goals as goal

pub returns-then-p-m : goal.returns-then-p-m
returns-then-p-m c = (search rules, inl refl)

pub returns : goal.returns
returns c = (search rules, inr (search rules))
