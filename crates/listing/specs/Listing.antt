-- The text that the program prints of a search (01, "The program"). Assumes nothing.
use Rattle.std.specs.Prelude.{List, ℕ, Result, Ok, Err}
use Rattle.table.specs.declared.Refusal.{Refusal}
use Rattle.table.specs.declared.Table.{Table}
use Rattle.table.specs.Refusal.{cause_number}
use Rattle.table.specs.Table.{read_of}
use Rattle.search.specs.Search.{Searched}
use Rattle.wire.specs.Wire.{Put}
use Rattle.lines.specs.Lines.{refused_line}
use Rattle.report.specs.Report.{answer_lines}

-- 01: a refusal prints only one line
abbrev pub refusal_text : Refusal → List ℕ
refusal_text r = refused_line (cause_number r.cause) r.place

-- on a table that was read: the lines of the answer's bytes, or the refusal
abbrev pub answer_text : List ℕ → Table → List ℕ → Result ℕ Refusal → List ℕ
answer_text file t bytes (Ok count) = answer_lines file t bytes count
answer_text file t bytes (Err r) = refusal_text r

-- the file's refusals come first
abbrev pub text_by : List ℕ → Result Table Refusal → List ℕ → Result ℕ Refusal → List ℕ
text_by file (Ok t) bytes answer = answer_text file t bytes answer
text_by file (Err r) bytes answer = refusal_text r

-- what stands in the text buffer, and how far: the listing of what the search left in the answer buffer
pub record Printed (file old new before after : List ℕ) (end : ℕ) : Type 0 where
  pub answer : Result ℕ Refusal
  pub searched : Searched file old new answer
  pub text : Put before 0 (text_by file (read_of file) new answer) after end
