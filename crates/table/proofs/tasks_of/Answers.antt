-- `tasks_of` meets its contract. Assumes nothing.
use Rattle.table.proofs.tasks_of.Goals as goal

pub returns : goal.returns
returns c =
    simp (
      c.fill.ensures,
      c.fill-2.ensures,
      c.fill-3.ensures,
      c.fill-4.ensures,
      c.fill-5.ensures,
      c.fill-6.ensures,
    )
