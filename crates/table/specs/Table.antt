-- The table of a file: each number stands where 01, "The table file", puts it.
use Rattle.std.specs.Prelude.{List, [], ◌∷◌, ◌++◌, ℕ, zero, suc, ltb, Result, Ok, Err}
use Rattle.finite.specs.Finite.{only}
use Rattle.layout.specs.declared.Kind.{Kind}
use Rattle.layout.specs.declared.Kind.TheVariants.{Network, Processor, Task, CoResident, Exclusive, Message}
use Rattle.layout.specs.declared.Progress.{Progress}
use Rattle.layout.specs.Format.{field, count, place}
use Rattle.table.specs.declared.Refusal.{Refusal}
use Rattle.table.specs.declared.Table.{Table}
use Rattle.table.specs.declared.Processors.{Processors}
use Rattle.table.specs.declared.Tasks.{Tasks}
use Rattle.table.specs.declared.Groups.{Groups}
use Rattle.table.specs.declared.Messages.{Messages}
use Rattle.table.specs.declared.Width.{Width}
use Rattle.table.specs.declared.Width.TheVariants.{One, Two, Four}
use Rattle.table.specs.Scan.{scan_of}

-- f 0, .., f (n - 1), then zeros, as many places in all as the first number says
unfoldable pub column : ℕ → ℕ → (ℕ → ℕ) → List ℕ
column zero n f = []
column (suc p) n f = column p n f ++ (only (ltb p n) (f p) ∷ [])

-- the bytes of a number
abbrev pub width_of : Width → ℕ
width_of One = 1
width_of Two = 2
width_of Four = 4

-- field i of the records of a kind
abbrev pub column_of : ℕ → List ℕ → Progress → Kind → ℕ → List ℕ
column_of places s x k i = column places (count x k) (λ j. field k i s (place x k j))

abbrev pub processor_columns : List ℕ → Progress → Processors
processor_columns s x = record { count = count x Processor; memory = column_of 8 s x Processor 0; limit = column_of 8 s x Processor 1 }

abbrev pub task_columns : List ℕ → Progress → Tasks
task_columns s x = record {
  count = count x Task;
  c = column_of 24 s x Task 0;
  t = column_of 24 s x Task 1;
  d = column_of 24 s x Task 2;
  memory = column_of 24 s x Task 3;
  priority = column_of 24 s x Task 4;
  residence = column_of 24 s x Task 5;
}

abbrev pub group_columns : List ℕ → Progress → Kind → Groups
group_columns s x k = record { count = count x k; mask = column_of 16 s x k 0 }

abbrev pub message_columns : List ℕ → Progress → Messages
message_columns s x = record {
  count = count x Message;
  sender = column_of 64 s x Message 0;
  receiver = column_of 64 s x Message 1;
  amount = column_of 64 s x Message 2;
}

-- the table of the file s with the records x
unfoldable pub table_of : List ℕ → Progress → Table
table_of s x = record {
  capacity = field Network 0 s 0;
  processors = processor_columns s x;
  tasks = task_columns s x;
  co = group_columns s x CoResident;
  ex = group_columns s x Exclusive;
  messages = message_columns s x;
  hyperperiod = x.hyperperiod;
}

-- the table of a file with the records that its scan took
abbrev pub reading_by : List ℕ → Result Progress Refusal → Result Table Refusal
reading_by s (Ok x) = Ok (table_of s x)
reading_by s (Err r) = Err r

-- what is read of a file: its table, or the first cause to refuse it and the place (01, "Refused input")
unfoldable pub read_of : List ℕ → Result Table Refusal
read_of s = reading_by s (scan_of s)
