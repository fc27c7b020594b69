-- The table file's format (01, "The table file"), and where its records and fields stand.
use Rattle.std.specs.Prelude.{◌≡◌, Bool, true, false, List, [], ◌∷◌, ℕ, ◌+◌, ◌*◌, ◌≤◌, length, get_or, Option, Some, None}
use Rattle.finite.specs.Finite.{sum_to}
use Rattle.wire.specs.Wire.{number, mark_at}
use Rattle.layout.specs.declared.Kind.{Kind}
use Rattle.layout.specs.declared.Kind.TheVariants.{Network, Processor, Task, CoResident, Exclusive, Message}
use Rattle.layout.specs.declared.Progress.{Progress}
use Rattle.layout.specs.declared.Series.{Series}
use Rattle.layout.specs.declared.Shape.{Shape}

-- one line of 01's table: its place in the order, the mark, the widths of the fields in bytes, how many there may be, and the first kind that may follow
pub record Row : Type 0 where
  pub order : ℕ
  pub mark : List ℕ
  pub widths : List ℕ
  pub most : ℕ
  pub next : ℕ

-- NT capacity · PR memory, limit · TK C, T, D, memory, priority, residence · CO mask · EX mask · MS sender, receiver, amount
-- (01, 3: a kind may follow itself, but no second NT)
abbrev pub row : Kind → Row
row Network = record { order = 0; mark = 78 ∷ 84 ∷ []; widths = 4 ∷ []; most = 1; next = 1 }
row Processor = record { order = 1; mark = 80 ∷ 82 ∷ []; widths = 4 ∷ 2 ∷ []; most = 8; next = 1 }
row Task = record { order = 2; mark = 84 ∷ 75 ∷ []; widths = 4 ∷ 4 ∷ 4 ∷ 4 ∷ 2 ∷ 2 ∷ []; most = 24; next = 2 }
row CoResident = record { order = 3; mark = 67 ∷ 79 ∷ []; widths = 4 ∷ []; most = 16; next = 3 }
row Exclusive = record { order = 4; mark = 69 ∷ 88 ∷ []; widths = 4 ∷ []; most = 16; next = 4 }
row Message = record { order = 5; mark = 77 ∷ 83 ∷ []; widths = 1 ∷ 1 ∷ 4 ∷ []; most = 64; next = 5 }

-- the kinds, in the file's order
abbrev pub kinds : List Kind
kinds = Network ∷ Processor ∷ Task ∷ CoResident ∷ Exclusive ∷ Message ∷ []

abbrev pub in_order : ℕ → Kind
in_order i = get_or kinds i Network

abbrev pub total_width : List ℕ → ℕ
total_width [] = 0
total_width (w ∷ ws) = w + total_width ws

-- a record's bytes: the mark's two, then its fields (01: nothing stands between records)
abbrev pub size : Kind → ℕ
size k = 2 + total_width (row k).widths

-- the numbers of a kind, as the code holds them
abbrev pub shape : ℕ → ℕ → ℕ → ℕ → Shape
shape order size most next = record { order = order; size = size; most = most; next = next }

abbrev pub shape_of : Kind → Shape
shape_of k = shape (row k).order (size k) (row k).most (row k).next

-- the fields of the record at a place, from the offset o on
abbrev pub fields_from : List ℕ → ℕ → List ℕ → ℕ → List ℕ
fields_from [] o s at = []
fields_from (w ∷ ws) o s at = number s (at + o) w ∷ fields_from ws (o + w) s at

-- field i of the record of a kind at a place
abbrev pub field : Kind → ℕ → List ℕ → ℕ → ℕ
field k i s at = get_or (fields_from (row k).widths 2 s at) i 0

abbrev pub limit : List ℕ → ℕ → ℕ
limit = field Processor 1

abbrev pub execution_time : List ℕ → ℕ → ℕ
execution_time = field Task 0

abbrev pub period : List ℕ → ℕ → ℕ
period = field Task 1

abbrev pub deadline : List ℕ → ℕ → ℕ
deadline = field Task 2

abbrev pub priority : List ℕ → ℕ → ℕ
priority = field Task 4

abbrev pub residence : List ℕ → ℕ → ℕ
residence = field Task 5

abbrev pub sender : List ℕ → ℕ → ℕ
sender = field Message 0

abbrev pub receiver : List ℕ → ℕ → ℕ
receiver = field Message 1

abbrev pub amount : List ℕ → ℕ → ℕ
amount = field Message 2

-- how many records of a kind were taken
abbrev pub count : Progress → Kind → ℕ
count x k = get_or x.counts (row k).order 0

-- the bytes of the first n kinds, with c k records of the kind k
unfoldable pub bytes_of : (Kind → ℕ) → ℕ → ℕ
bytes_of c n = sum_to n (λ i. size (in_order i) * c (in_order i))

-- where the first record of a kind stands: behind all those of the kinds before it
abbrev pub start : Progress → Kind → ℕ
start x k = bytes_of (count x) (row k).order

-- the records of a kind, one behind the other, and where record j of them stands
abbrev pub series_of : Progress → Kind → Series
series_of x k = record { first = start x k; size = size k }

unfoldable pub place_in : Series → ℕ → ℕ
place_in r j = r.first + r.size * j

-- where record j of a kind stands
abbrev pub place : Progress → Kind → ℕ → ℕ
place x k = place_in (series_of x k)

-- where all the records end
abbrev pub end : Progress → ℕ
end x = bytes_of (count x) (length kinds)

-- the bytes of the longest file: of each kind as many records as there may be
unfoldable pub longest : ℕ
longest = bytes_of (λ k. (row k).most) (length kinds)

-- the kind, of some, whose mark stands at a place
abbrev pub first_mark : Bool → Kind → Option Kind → Option Kind
first_mark true k m = Some k
first_mark false k m = m

abbrev pub marked_of : List Kind → List ℕ → ℕ → Option Kind
marked_of [] s at = None
marked_of (k ∷ ks) s at = first_mark (mark_at s at (row k).mark) k (marked_of ks s at)

unfoldable pub kind_at : List ℕ → ℕ → Option Kind
kind_at = marked_of kinds

-- no kind has more records than it may
pub record Counted (x : Progress) : Type 0 where
  pub kinds : length x.counts ≡ 6
  pub few : (k : Kind) → count x k ≤ (row k).most
