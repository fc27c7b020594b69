-- `messages_of` meets its contract. Assumes nothing.
use Rattle.table.proofs.messages_of.Goals as goal

pub returns : goal.returns
returns c = simp (c.fill.ensures, c.fill-2.ensures, c.fill-3.ensures)
