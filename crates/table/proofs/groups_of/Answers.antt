-- `groups_of` meets its contract. Assumes nothing.
use Rattle.table.proofs.groups_of.Goals as goal

pub returns : goal.returns
returns c = simp (c.count_of-n.ensures, c.fill.ensures)
