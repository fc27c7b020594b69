-- The file of a table: its records, in the format's order.
use Rattle.std.specs.Prelude.{List, [], ◌∷◌, ◌++◌, ℕ, length, get_or}
use Rattle.wire.specs.Wire.{bytes, pieces}
use Rattle.layout.specs.declared.Kind.{Kind}
use Rattle.layout.specs.declared.Kind.TheVariants.{Network, Processor, Task, CoResident, Exclusive, Message}
use Rattle.layout.specs.Format.{row, kinds, in_order}
use Rattle.table.specs.declared.Table.{Table}

-- values in fields of the given widths
unfoldable pub field_bytes : List ℕ → List ℕ → List ℕ
field_bytes [] vs = []
field_bytes (w ∷ ws) [] = []
field_bytes (w ∷ ws) (v ∷ vs) = bytes w v ++ field_bytes ws vs

-- a record of a kind
unfoldable pub encode_record : Kind → List ℕ → List ℕ
encode_record k vs = (row k).mark ++ field_bytes (row k).widths vs

-- how many records of each kind a table has, in the kinds' order
abbrev pub counts_of : Table → List ℕ
counts_of t = 1 ∷ t.processors.count ∷ t.tasks.count ∷ t.co.count ∷ t.ex.count ∷ t.messages.count ∷ []

-- the values of record j of a kind
abbrev pub values_of : Table → Kind → ℕ → List ℕ
values_of t Network j = t.capacity ∷ []
values_of t Processor j = get_or t.processors.memory j 0 ∷ get_or t.processors.limit j 0 ∷ []
values_of t Task j =
    get_or t.tasks.c j 0
    ∷ get_or t.tasks.t j 0
    ∷ get_or t.tasks.d j 0
    ∷ get_or t.tasks.memory j 0
    ∷ get_or t.tasks.priority j 0
    ∷ get_or t.tasks.residence j 0
    ∷ []
values_of t CoResident j = get_or t.co.mask j 0 ∷ []
values_of t Exclusive j = get_or t.ex.mask j 0 ∷ []
values_of t Message j = get_or t.messages.sender j 0 ∷ get_or t.messages.receiver j 0 ∷ get_or t.messages.amount j 0 ∷ []

-- the first n records of a kind
abbrev pub records_to : Table → Kind → ℕ → List ℕ
records_to t k n = pieces n (λ j. encode_record k (values_of t k j))

-- all records of the first n kinds
abbrev pub kinds_to : Table → ℕ → List ℕ
kinds_to t n = pieces n (λ i. records_to t (in_order i) (get_or (counts_of t) (row (in_order i)).order 0))

unfoldable pub encode : Table → List ℕ
encode t = kinds_to t (length kinds)
