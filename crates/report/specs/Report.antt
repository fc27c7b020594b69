-- The lines of a search answer (01, "The program"). Assumes nothing.
use Rattle.std.specs.Prelude.{Bool, true, false, Ok, List, ◌++◌, ℕ, ◌+◌, ◌-◌, ◌/◌, eqb, length, get_or, take, drop, replicate}
use Rattle.std.specs.Result.{result_unwrap_or}
use Rattle.wire.specs.Wire.{mark_at, pieces}
use Rattle.table.specs.declared.Table.{Table}
use Rattle.load.specs.Nearest.{nearest}
use Rattle.rules.specs.Placement.{placed}
use Rattle.rules.specs.Rules.{load_on}
use Rattle.judge.specs.declared.Judged.{Judged}
use Rattle.judge.specs.Judge.{known_zero, judge_of}
use Rattle.answer.specs.Answer.{mask_at}
use Rattle.text.specs.Text.{ascii}
use Rattle.lines.specs.declared.Stand.{Stand}
use Rattle.lines.specs.Lines.{task_line, load_line, conflict_line}

-- what is printed of a placement that is refused: as if there were no task; its check is not read
abbrev pub nothing : Judged
nothing = record { check = Ok tt; responses = replicate 24 0; margins = replicate 24 known_zero }

-- where task k stands, and how it fares there by the judgement
abbrev pub stand_of : List ℕ → Judged → List ℕ → ℕ → Stand
stand_of q j deadlines k = record {
  task = k;
  processor = get_or q k 0;
  response = get_or j.responses k 0;
  deadline = get_or deadlines k 0;
  margin = get_or j.margins k known_zero;
}

-- 01: task lines give task, processor, response and deadline; 02: and the margin
abbrev pub task_lines : List ℕ → Judged → List ℕ → List ℕ
task_lines q j deadlines = pieces (length q) (λ k. task_line (stand_of q j deadlines k))

-- 01: its load in thousandths of H; 02: the nearest one
abbrev pub thousandths : Table → List ℕ → ℕ → ℕ
thousandths t q p = nearest (load_on t (placed q) p) t.hyperperiod

-- 01: load lines give the processor and its load
abbrev pub load_lines : Table → List ℕ → List ℕ
load_lines t q = pieces t.processors.count (λ p. load_line p (thousandths t q p))

-- the lines of a placement; the responses and the margins are those of its judgement
abbrev pub placement_lines : List ℕ → Table → List ℕ → List ℕ
placement_lines file t q = task_lines q (result_unwrap_or (judge_of file q) nothing) t.tasks.d ++ load_lines t q

-- 01: with no placement the first line is `none` and task and load lines are absent
abbrev pub head_lines : Bool → List ℕ → Table → List ℕ → List ℕ
head_lines true file t q = ascii "found\n" ++ placement_lines file t q
head_lines false file t q = ascii "none\n"

-- 01: the lines stand in the buffer's order; the list is the answer's part after the head
abbrev pub conflict_lines : ℕ → List ℕ → ℕ → List ℕ
conflict_lines n list count = pieces count (λ j. conflict_line n (mask_at list j))

-- 01: a cut list ends in `cut`
abbrev pub last_line : Bool → List ℕ
last_line true = ascii "complete\n"
last_line false = ascii "cut\n"

-- the lines of the first `count` bytes of an answer: its head is `AL` where there is a placement, its last byte is 1 where the list is complete
unfoldable pub answer_lines : List ℕ → Table → List ℕ → ℕ → List ℕ
answer_lines file t bytes count =
    head_lines (mark_at bytes 0 (ascii "AL")) file t (take t.tasks.count (drop 2 bytes))
    ++ conflict_lines t.tasks.count (drop (t.tasks.count + 2) bytes) ((count - t.tasks.count - 5) / 6)
    ++ last_line (eqb (get_or bytes (count - 1) 0) 1)
