-- The quotient is the definition's.
use borrow.Author.Rules.{rules}
use Rattle.schedule.specs.Response.{ceil}
use Rattle.schedule.proofs.rounded_up.Goals as goal

pub returns : goal.returns
unfolding ceil
returns c = search rules
