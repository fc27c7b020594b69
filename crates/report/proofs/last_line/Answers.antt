-- `last_line` meets its contract, by whether the list is complete.
use Rattle.report.proofs.last_line.Goals as goal

pub returns-then-complete : goal.returns-then-complete
returns-then-complete c =
    rw c.if-complete.true c.put.ensures

pub returns : goal.returns
returns c =
    rw c.if-complete.false c.put-2.ensures
