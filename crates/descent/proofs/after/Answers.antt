-- Each part by its own equation.
use mathlib.Core.Path.{◌≡◌, refl, ◌∙◌}
use native.Mathlib.Omega.{arith}
use borrow.Author.Rules.{rules}
use Rattle.descent.specs.Descent.{compared_of, turned_back_of, after_of}
use Rattle.descent.proofs.Moving.{Within, compared_within, turned_within}
use Rattle.descent.proofs.after.Lts as lts
use Rattle.descent.proofs.after.Reads as reads
use Rattle.descent.proofs.after.Tie as tie
use Rattle.descent.proofs.after.Goals as goal

-- the search after the best weights are noted, and it has turned back
turned : (c : lts.After-turned_back tie.the-claims reads.Pre reads.Post) → let a = c.args in c.turned_back-next.result ≡ turned_back_of (compared_of a.descent a.gap a.calls) a.pace.patience
turned c = c.turned_back-next.ensures ∙ rw c.compared.ensures refl

within : (c : lts.After-turned_back tie.the-claims reads.Pre reads.Post) → Within c.args.descent.rounds c.turned_back-next.result
within c = rw (turned c) (turned_within c.args.pace.patience (compared_within c.args.gap c.requires.0 c.requires.6))

pub compared-requires : goal.compared-requires
unfolding after_of
compared-requires c = let w = c.requires.0 in (omega (arith, w.calls, c.requires.1, c.requires.6), omega (arith, w.idle))

pub turned_back-next-requires : goal.turned_back-next-requires
unfolding after_of
turned_back-next-requires c = rw c.compared.ensures (compared_within c.args.gap c.requires.0 c.requires.6).alpha

pub ends-requires : goal.ends-requires
unfolding after_of
ends-requires c = search rules

pub returns-then-ends : goal.returns-then-ends
unfolding after_of
returns-then-ends c = rw (← turned c.before.before, ← c.ends.ensures, c.if-ends.true) refl

pub advanced-requires : goal.advanced-requires
unfolding after_of
advanced-requires c =
    let v = within c.before.before in
    (v.direction, v.alpha, omega (arith, v.rounds, c.requires.1), c.requires.3, c.requires.4, c.requires.5)

pub returns : goal.returns
unfolding after_of
returns c =
    c.advanced.ensures ∙ rw (← turned c.before.before.before, ← c.ends.ensures, c.if-ends.false) refl
