-- `first_broken` meets its contract. Assumes nothing.
use Rattle.std.proofs.lemmas.Result.{err_from_is_err_and}
use Rattle.rules.specs.Rules.{first_broken}
use Rattle.checking.proofs.first_broken.Goals as goal

pub returns-in_err-check_rule : goal.returns-in_err-check_rule
unfolding first_broken
returns-in_err-check_rule c =
    let p = err_from_is_err_and c.from_residual.result c.from_residual.ensures.1 in
    rw (p.1, p.2, ← c.in_err-check_rule.ensures)

pub returns-in_err-check_rule-2 : goal.returns-in_err-check_rule-2
unfolding first_broken
returns-in_err-check_rule-2 c =
    let p = err_from_is_err_and c.from_residual-in_err-check_rule-2.result c.from_residual-in_err-check_rule-2.ensures.1 in
    rw (p.1, p.2, ← c.in_ok-check_rule.ensures, ← c.in_err-check_rule-2.ensures)

pub returns-in_err-check_rule-3 : goal.returns-in_err-check_rule-3
unfolding first_broken
returns-in_err-check_rule-3 c =
    let p = err_from_is_err_and c.from_residual-in_err-check_rule-3.result c.from_residual-in_err-check_rule-3.ensures.1 in
    rw (p.1, p.2, ← c.in_ok-check_rule.ensures, ← c.in_ok-check_rule-2.ensures, ← c.in_err-check_rule-3.ensures)

pub returns-in_err-check_rule-4 : goal.returns-in_err-check_rule-4
unfolding first_broken
returns-in_err-check_rule-4 c =
    let p = err_from_is_err_and c.from_residual-in_err-check_rule-4.result c.from_residual-in_err-check_rule-4.ensures.1 in
    rw (p.1, p.2, ← c.in_ok-check_rule.ensures, ← c.in_ok-check_rule-2.ensures, ← c.in_ok-check_rule-3.ensures, ← c.in_err-check_rule-4.ensures)

pub returns-in_err-check_rule-5 : goal.returns-in_err-check_rule-5
unfolding first_broken
returns-in_err-check_rule-5 c =
    let p = err_from_is_err_and c.from_residual-in_err-check_rule-5.result c.from_residual-in_err-check_rule-5.ensures.1 in
    rw (p.1, p.2, ← c.in_ok-check_rule.ensures, ← c.in_ok-check_rule-2.ensures, ← c.in_ok-check_rule-3.ensures, ← c.in_ok-check_rule-4.ensures, ← c.in_err-check_rule-5.ensures)

pub returns-in_err-check_rule-6 : goal.returns-in_err-check_rule-6
unfolding first_broken
returns-in_err-check_rule-6 c =
    let p = err_from_is_err_and c.from_residual-in_err-check_rule-6.result c.from_residual-in_err-check_rule-6.ensures.1 in
    rw (p.1, p.2, ← c.in_ok-check_rule.ensures, ← c.in_ok-check_rule-2.ensures, ← c.in_ok-check_rule-3.ensures, ← c.in_ok-check_rule-4.ensures, ← c.in_ok-check_rule-5.ensures, ← c.in_err-check_rule-6.ensures)

pub returns : goal.returns
unfolding first_broken
returns c = rw (← c.in_ok-check_rule.ensures, ← c.in_ok-check_rule-2.ensures, ← c.in_ok-check_rule-3.ensures, ← c.in_ok-check_rule-4.ensures, ← c.in_ok-check_rule-5.ensures, ← c.in_ok-check_rule-6.ensures) c.check_rule-7.ensures
