-- `response_by` meets its contract.
use borrow.Author.Tests.{le-leb, lt-leb}
use Rattle.schedule.proofs.response_by.Goals as goal

pub returns-then-deadline-worst : goal.returns-then-deadline-worst
returns-then-deadline-worst c = rw (lt-leb _ _ c.if-deadline-worst.true)

pub returns-else-deadline-worst : goal.returns-else-deadline-worst
returns-else-deadline-worst c = rw (le-leb _ _ c.if-deadline-worst.false)
