-- `table_of` meets its contract. Assumes nothing.
use borrow.Author.Rules.{rules}
use Rattle.table.specs.Table.{table_of}
use Rattle.table.proofs.table_of.Goals as goal

pub word_at-capacity-requires : goal.word_at-capacity-requires
unfolding table_of
word_at-capacity-requires c = search rules

pub processors_of-processors-requires : goal.processors_of-processors-requires
unfolding table_of
processors_of-processors-requires c = search rules

pub tasks_of-tasks-requires : goal.tasks_of-tasks-requires
unfolding table_of
tasks_of-tasks-requires c = search rules

pub groups_of-co-requires : goal.groups_of-co-requires
unfolding table_of
groups_of-co-requires c = search rules

pub groups_of-ex-requires : goal.groups_of-ex-requires
unfolding table_of
groups_of-ex-requires c = search rules

pub messages_of-messages-requires : goal.messages_of-messages-requires
unfolding table_of
messages_of-messages-requires c = search rules

pub returns : goal.returns
unfolding table_of
returns c =
    simp (
      c.word_at-capacity.ensures,
      c.processors_of-processors.ensures,
      c.tasks_of-tasks.ensures,
      c.groups_of-co.ensures,
      c.groups_of-ex.ensures,
      c.messages_of-messages.ensures,
    )
