-- `check_rule` meets its contract. Assumes nothing.
use mathlib.Core.Path.{sym, ◌∙◌}
use Prim.Native.Nat.{◌<◌}
use native.Mathlib.Omega.{arith}
use borrow.Author.Tests.{lt-ltb, le-ltb}
use Rattle.finite.proofs.Search.{search_start, search_next, search_found, search_missed}
use Rattle.rules.specs.Rules.{concerned, check_rule}
use Rattle.checking.proofs.check_rule.Lts as lts
use Rattle.checking.proofs.check_rule.Reads as reads
use Rattle.checking.proofs.check_rule.Tie as tie
use Rattle.checking.proofs.check_rule.Goals as goal

within : (c : lts.In-loop tie.the-claims reads.Pre reads.Post goal.the-invariant-loop-number goal.the-decreases-loop-number) → c.loop-number.number < concerned c.args.t c.args.rule
within c = omega (arith, c.loop-number-test.true, c.concerned-number-end.ensures)

pub loop-number-init : goal.loop-number-init
unfolding check_rule
loop-number-init c = search_start

pub breaks-requires : goal.breaks-requires
unfolding check_rule
breaks-requires c = (c.requires, within c)

pub returns-then-breaks : goal.returns-then-breaks
unfolding check_rule
returns-then-breaks c =
    rw (search_found c.loop-number.invariant (within c.before.before) (sym c.breaks.ensures ∙ c.if-breaks.true), lt-ltb _ _ (within c.before.before))

pub loop-number-preserved : goal.loop-number-preserved
unfolding check_rule
loop-number-preserved c = search_next c.loop-number.invariant (within c.before.before) (sym c.breaks.ensures ∙ c.if-breaks.false)

pub returns : goal.returns
unfolding check_rule
returns c =
    let n = concerned c.args.t c.args.rule in
    rw (search_missed c.loop-number.invariant (omega (arith, c.loop-number-test.false, c.concerned-number-end.ensures)), le-ltb n n (omega arith))
