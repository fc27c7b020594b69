-- What the code that fills the table's arrays needs and gives.
use Rattle.std.specs.Prelude.{List, ℕ, ◌+◌, ◌≤◌, length}
use Rattle.wire.specs.Wire.{number}
use Rattle.layout.specs.declared.Kind.{Kind}
use Rattle.layout.specs.declared.Progress.{Progress}
use Rattle.layout.specs.Format.{size, count, place}
use Rattle.verdict.specs.Reached.{Reached}
use Rattle.table.specs.declared.Width.{Width}
use Rattle.table.specs.declared.Groups.{Groups}
use Rattle.table.specs.Table.{column, width_of}

-- the records of a file that was scanned to its end, and a field within each record of a kind
pub record FieldIn (s : List ℕ) (x : Progress) (k : Kind) (offset : ℕ) (width : Width) : Type 0 where
  pub reached : Reached s (length s) x
  pub holds : offset + width_of width ≤ size k

-- the field of record j
abbrev pub field_at : List ℕ → Progress → Kind → ℕ → Width → ℕ → ℕ
field_at s x k offset width j = number s (place x k j + offset) (width_of width)

-- the groups of a kind
abbrev pub group_masks : List ℕ → Progress → Kind → Groups
group_masks s x k = record { count = count x k; mask = column 16 (count x k) (λ j. number s (place x k j + 2) 4) }
