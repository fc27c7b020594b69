-- The message counts exactly if the task is one of its two ends.
use mathlib.Core.Path.{◌≡◌, refl}
use mathlib.Core.Logic.{⊎_elim}
use mathlib.Core.Bool.{true, ◌||◌, or-true}
use borrow.Author.Rules.{rules}
use borrow.Author.Tests.{eq-eqb, ne_eqb}
use lib.Dec.{eqb}
use Rattle.static_order.specs.StaticOrder.{message_weight}
use Rattle.static_order.proofs.message_weight.Lts as lts
use Rattle.static_order.proofs.message_weight.Reads as reads
use Rattle.static_order.proofs.message_weight.Tie as tie
use Rattle.static_order.proofs.message_weight.Goals as goal

-- past the tests the task is the sender or the receiver
concerned : (c : lts.Joined1 tie.the-claims reads.Pre reads.Post) → let a = c.args in (eqb a.from a.task || eqb a.to a.task) ≡ true
concerned c = ⊎_elim (λ w. rw (eq-eqb _ _ w.if-to-task.false) (or-true (eqb c.args.from c.args.task))) (λ w. rw (eq-eqb _ _ w.if-from-task.false) refl) c.if-from-task.branch-raw

pub returns-then-to-task : goal.returns-then-to-task
unfolding message_weight
returns-then-to-task c = (rw (ne_eqb _ _ c.if-from-task.true, ne_eqb _ _ c.if-to-task.true), search rules)

pub lower-requires : goal.lower-requires
unfolding message_weight
lower-requires c = search rules

pub returns : goal.returns
unfolding message_weight
returns c = (rw (concerned c.before) c.lower.ensures, search rules)
