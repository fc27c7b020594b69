-- `check_rule` meets its contract. Assumes nothing.
use Rattle.finite.proofs.Search.{Searched}
use Rattle.rules.specs.Rules.{concerned, broken}
use Rattle.rules.specs.Sets.{standing, missed}
use Rattle.checking.proofs.check_rule.Given as goal

abbrev pub invariant-loop-number : goal.invariant-loop-number
invariant-loop-number l = Searched (concerned l.t l.rule) (broken l.t (standing l.sets) (missed l.responses) l.rule) l.number
