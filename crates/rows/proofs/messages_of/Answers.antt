-- Each row is the definition's.
use Rattle.rows.proofs.messages_of.Goals as goal

pub returns : goal.returns
returns c = rw c.amounts_of-amount.ensures
