-- The form of the search's contracts: they speak of every table whose instance is lent, with what is known of it.
use Rattle.table.specs.declared.Table.{Table}
use Rattle.rows.specs.declared.Messages.{Messages}
use Rattle.partial.specs.declared.Instance.{Instance}
use Rattle.region.specs.Lends.{Lends}

-- the instance is that of the table
abbrev pub InstanceOf : Table → Instance → Type 0
InstanceOf t x = Lends t x.sizes x.timing x.rows x.messages

-- what is asked: the instance is that of a table with P, of which K is known
abbrev pub Given : Instance → (Table → Type 0) → (Table → Type 0) → Type 0
Given x P K = (t : Table) × InstanceOf t x × P t × K t

-- what is promised: Q of each such table
abbrev pub Gives : Instance → (Table → Type 0) → (Table → Type 0) → (Table → Type 0) → Type 0
Gives x P K Q = (t : Table) → InstanceOf t x → P t → K t → Q t

-- the instance with other messages: what does not look at the messages is right of each
abbrev pub with_links : Instance → Messages → Instance
with_links x links = record { timing = x.timing; rows = x.rows; messages = links; sizes = x.sizes }
