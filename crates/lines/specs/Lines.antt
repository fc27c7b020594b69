-- The lines of the program's listing that hold numbers, as bytes (01, "The program"). Every line ends in one LF. Assumes nothing.
use Rattle.std.specs.Prelude.{cond, Option, Some, None, List, [], ◌++◌, ℕ, ℤ}
use Rattle.wire.specs.Wire.{pieces}
use Rattle.mask.specs.Mask.{has}
use Rattle.text.specs.Text.{ascii, decimal, signed}
use Rattle.lines.specs.declared.Stand.{Stand}

-- a word and a number
abbrev pub item : List ℕ → ℕ → List ℕ
item word x = word ++ decimal x

-- a space and a number
abbrev pub spaced : ℕ → List ℕ
spaced x = item (ascii " ") x

-- 02: a margin is a signed number, or the mark for "beyond"
abbrev pub margin_text : Option ℤ → List ℕ
margin_text (Some x) = signed x
margin_text None = ascii "beyond"

-- 01: task lines give task, processor, response and deadline; 02: they end in `margin` and this
abbrev pub task_line : Stand → List ℕ
task_line s =
    item (ascii "task ") s.task ++ item (ascii " on ") s.processor ++ item (ascii " response ") s.response ++ item (ascii " deadline ") s.deadline
    ++ ascii " margin " ++ margin_text s.margin ++ ascii "\n"

-- a word and two numbers
abbrev pub pair_line : List ℕ → ℕ → ℕ → List ℕ
pair_line word x y = item word x ++ spaced y ++ ascii "\n"

-- 01: load lines give the processor and its load
abbrev pub load_line : ℕ → ℕ → List ℕ
load_line p x = pair_line (ascii "load ") p x

-- a space and k, where k is in the mask
abbrev pub member : ℕ → ℕ → List ℕ
member mask k = cond (has mask k) (spaced k) []

-- 01: a conflict line gives its tasks rising
abbrev pub conflict_line : ℕ → ℕ → List ℕ
conflict_line n mask = ascii "conflict" ++ pieces n (member mask) ++ ascii "\n"

-- 01: a refusal prints only one line: `refused`, number, place
abbrev pub refused_line : ℕ → ℕ → List ℕ
refused_line number place = pair_line (ascii "refused ") number place
