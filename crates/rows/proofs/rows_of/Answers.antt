-- Each row is the definition's.
use Rattle.rows.proofs.rows_of.Goals as goal

pub neighbours_of-exclusions-requires : goal.neighbours_of-exclusions-requires
neighbours_of-exclusions-requires c = let s = c.requires in (s.ex, s.tasks.most)

pub neighbours_of-partners-requires : goal.neighbours_of-partners-requires
neighbours_of-partners-requires c = let s = c.requires in (s.co, s.tasks.most)

pub returns : goal.returns
returns c = rw (c.loads_of-load.ensures, c.neighbours_of-exclusions.ensures, c.neighbours_of-partners.ensures)
