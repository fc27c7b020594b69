-- The starred cases of 01, "Table of cases", with the margins of 02, 2026-01, and the loads of 02, 2026-02, to the nearest thousandth.
-- A row is a table file, a placement of its tasks, and what is claimed of them.
use Rattle.std.specs.Prelude.{◌≡◌, List, [], ◌∷◌, map, ℕ, ◌-◌, ◌*◌, ◌^◌, ◌<◌, ℤ, pos, ◌-ℤ◌, length, get_or, Option, Some, None, Ok}
use Prim.Native.String.{String}
use Rattle.finite.specs.Finite.{tabulate}
use Rattle.mask.specs.Mask.{has}
use Rattle.table.specs.declared.Table.{Table}
use Rattle.table.specs.Table.{column, read_of}
use Rattle.table.specs.Encode.{encode}
use Rattle.schedule.specs.Run.{service}
use Rattle.schedule.specs.Periodic.{run, LateSet}
use Rattle.timing.specs.Timing.{tasks_in}
use Rattle.rules.specs.declared.Rule.TheVariants.{Memory, Utilisation, Network, Deadline}
use Rattle.rules.specs.Placement.{placed}
use Rattle.rules.specs.Rules.{Check, broken_with, load_on}
use Rattle.conflict.specs.Conflict.{Minimal}
use Rattle.judge.specs.Judge.{alongside, known_zero, judge_of}
use Rattle.text.specs.Text.{ascii}
use Rattle.report.specs.Report.{load_lines}

-- ---- a row

pub record Processor : Type 0 where
  pub memory : ℕ
  pub limit : ℕ

pub record Task : Type 0 where
  pub C : ℕ
  pub T : ℕ
  pub D : ℕ
  pub memory : ℕ
  pub priority : ℕ

pub record Message : Type 0 where
  pub sender : ℕ
  pub receiver : ℕ
  pub amount : ℕ

-- what a row can claim
pub data Claim : Type 0 where
  -- the rules kept or the first one broken, and the responses and the margins of the tasks
  judged : Check → List ℕ → List (Option ℤ) → Claim
  -- in the tick run of its processor the first job of task k ends with tick x - 1
  ends : (k x : ℕ) → Claim
  -- the set of tasks is late; it is a minimal conflict
  late : (set : ℕ) → Claim
  minimal : (set : ℕ) → Claim
  -- the load of processor p is a / b of a full one
  load : (p a b : ℕ) → Claim
  -- the load lines that the program prints for the placement
  prints : String → Claim

pub record Case : Type 0 where
  pub capacity : ℕ
  pub processors : List Processor
  pub tasks : List Task
  pub messages : List Message
  pub placement : List ℕ
  pub claims : List Claim

-- ---- what a row says

-- its table, in which each task may reside on every processor, as a file; a file holds no hyperperiod
abbrev pub table_for : Case → Table
table_for c = record {
  capacity = c.capacity;
  processors = record { count = length c.processors; memory = map (λ p. p.memory) c.processors; limit = map (λ p. p.limit) c.processors };
  tasks = record {
    count = length c.tasks;
    c = map (λ a. a.C) c.tasks;
    t = map (λ a. a.T) c.tasks;
    d = map (λ a. a.D) c.tasks;
    memory = map (λ a. a.memory) c.tasks;
    priority = map (λ a. a.priority) c.tasks;
    residence = map (λ a. 2 ^ length c.processors - 1) c.tasks;
  };
  co = record { count = 0; mask = [] };
  ex = record { count = 0; mask = [] };
  messages = record {
    count = length c.messages;
    sender = map (λ s. s.sender) c.messages;
    receiver = map (λ s. s.receiver) c.messages;
    amount = map (λ s. s.amount) c.messages;
  };
  hyperperiod = 1;
}

abbrev pub file_of : Case → List ℕ
file_of c = encode (table_for c)

-- a claim, of the file's bytes and of the table that is read from them
abbrev pub Claimed : List ℕ → Table → List ℕ → Claim → Type 0
Claimed file t q (judged answer responses margins) =
    judge_of file q
    ≡ Ok (record {
      check = answer;
      responses = column 24 (length responses) (λ j. get_or responses j 0);
      margins = tabulate 24 (λ j. get_or margins j known_zero);
    })
Claimed file t q (ends k x) =
    (service (run (tasks_in t) (alongside q k)) (x - 1) k 0 < (tasks_in t).C k) × (service (run (tasks_in t) (alongside q k)) x k 0 ≡ (tasks_in t).C k)
Claimed file t q (late set) = LateSet (tasks_in t) (has set)
Claimed file t q (minimal set) = Minimal (tasks_in t) set
Claimed file t q (load p a b) = b * load_on t (placed q) p ≡ a * t.hyperperiod
Claimed file t q (prints lines) = load_lines t q ≡ ascii lines

abbrev pub EachHolds : List ℕ → Table → List ℕ → List Claim → Type 0
EachHolds file t q [] = Unit {0}
EachHolds file t q (x ∷ xs) = Claimed file t q x × EachHolds file t q xs

-- the file is read, and each claim holds of its table
abbrev pub Holds : Case → Type 0
Holds c = (t : Table) × (read_of (file_of c) ≡ Ok t) × EachHolds (file_of c) t c.placement c.claims

abbrev pub AllHold : List Case → Type 0
AllHold [] = Unit {0}
AllHold (c ∷ cs) = Holds c × AllHold cs

-- ---- the rows, in 01's order; 02's loads at the end

abbrev pub processor : ℕ → ℕ → Processor
processor memory limit = record { memory = memory; limit = limit }

abbrev pub task : ℕ → ℕ → ℕ → ℕ → ℕ → Task
task C T D memory priority = record { C = C; T = T; D = D; memory = memory; priority = priority }

abbrev pub message : ℕ → ℕ → ℕ → Message
message sender receiver amount = record { sender = sender; receiver = receiver; amount = amount }

-- all tasks on one processor
abbrev pub on_one : Processor → List Task → List Claim → Case
on_one p tasks claims = record { capacity = 0; processors = p ∷ []; tasks = tasks; messages = []; placement = map (λ a. 0) tasks; claims = claims }

-- a task on each of two processors, and messages between them
abbrev pub on_two : ℕ → List Task → List Message → List Claim → Case
on_two capacity tasks messages claims = record {
  capacity = capacity;
  processors = processor 100 1000 ∷ processor 100 1000 ∷ [];
  tasks = tasks;
  messages = messages;
  placement = 0 ∷ 1 ∷ [];
  claims = claims;
}

-- five processors of memory 100 and limit 1000, with a task on each
abbrev pub on_five : List Task → List Claim → Case
on_five tasks claims = record {
  capacity = 0;
  processors = processor 100 1000 ∷ processor 100 1000 ∷ processor 100 1000 ∷ processor 100 1000 ∷ processor 100 1000 ∷ [];
  tasks = tasks;
  messages = [];
  placement = 0 ∷ 1 ∷ 2 ∷ 3 ∷ 4 ∷ [];
  claims = claims;
}

-- no rule is broken
abbrev pub kept : Check
kept = Ok tt

-- a margin of so many ticks, one below zero by so many, and none that is known
abbrev pub by : ℕ → Option ℤ
by x = Some (pos x)

abbrev pub late_by : ℕ → Option ℤ
late_by x = Some (pos 0 -ℤ pos x)

abbrev pub beyond : Option ℤ
beyond = None

-- memory 10 and a processor of memory 100 and limit 1000, unless the case is about these
abbrev pub cases : List Case
cases =
    -- tasks (C, T, D) 1 4 4, 2 6 6, 3 12 10, falling priority, one processor: responses 1, 3, 10; margins 3, 3, 0
    on_one (processor 100 1000) (task 1 4 4 10 3 ∷ task 2 6 6 10 2 ∷ task 3 12 10 10 1 ∷ [])
    (judged kept (1 ∷ 3 ∷ 10 ∷ []) (by 3 ∷ by 3 ∷ by 0 ∷ []) ∷ ends 0 1 ∷ ends 1 3 ∷ ends 2 10 ∷ [])
    -- with D 9 the set is a minimal conflict; the last task is late by 1
    ∷ on_one (processor 100 1000) (task 1 4 4 10 3 ∷ task 2 6 6 10 2 ∷ task 3 12 9 10 1 ∷ [])
    (judged (broken_with Deadline 2) (1 ∷ 3 ∷ 0 ∷ []) (by 3 ∷ by 3 ∷ late_by 1 ∷ []) ∷ minimal 7 ∷ ends 2 10 ∷ [])
    -- with D 3 its margin reaches further below zero: 3 - 10
    ∷ on_one (processor 100 1000) (task 1 4 4 10 3 ∷ task 2 6 6 10 2 ∷ task 3 12 3 10 1 ∷ [])
    (judged (broken_with Deadline 2) (1 ∷ 3 ∷ 0 ∷ []) (by 3 ∷ by 3 ∷ late_by 7 ∷ []) ∷ ends 2 10 ∷ [])
    -- 2 4 4 and 2 4 4: responses 2, 4
    ∷ on_one (processor 100 1000) (task 2 4 4 10 2 ∷ task 2 4 4 10 1 ∷ []) (judged kept (2 ∷ 4 ∷ []) (by 2 ∷ by 0 ∷ []) ∷ ends 0 2 ∷ ends 1 4 ∷ [])
    -- with D 3 for the second: late, and known at exactly the period
    ∷ on_one (processor 100 1000) (task 2 4 4 10 2 ∷ task 2 4 3 10 1 ∷ []) (judged (broken_with Deadline 1) (2 ∷ 0 ∷ []) (by 2 ∷ late_by 1 ∷ []) ∷ ends 1 4 ∷ [])
    -- 2 4 4 above 3 6 6: late at load exactly 1; the least solution is 7, beyond the period by one
    ∷ on_one (processor 100 1000) (task 2 4 4 10 2 ∷ task 3 6 6 10 1 ∷ []) (judged (broken_with Deadline 1) (2 ∷ 0 ∷ []) (by 2 ∷ beyond ∷ []) ∷ late 3 ∷ load 0 1 1 ∷ [])
    -- with priorities exchanged: late
    ∷ on_one (processor 100 1000) (task 2 4 4 10 1 ∷ task 3 6 6 10 2 ∷ []) (judged (broken_with Deadline 0) (0 ∷ 3 ∷ []) (beyond ∷ by 3 ∷ []) ∷ late 3 ∷ load 0 1 1 ∷ [])
    -- memory 100 takes 60 + 40
    ∷ on_one (processor 100 1000) (task 1 4 4 60 2 ∷ task 2 6 6 40 1 ∷ []) (judged kept (1 ∷ 3 ∷ []) (by 3 ∷ by 3 ∷ []) ∷ [])
    -- not 60 + 41
    ∷ on_one (processor 100 1000) (task 1 4 4 60 2 ∷ task 2 6 6 41 1 ∷ []) (judged (broken_with Memory 0) (1 ∷ 3 ∷ []) (by 3 ∷ by 3 ∷ []) ∷ [])
    -- load 7/12 keeps limit 584
    ∷ on_one (processor 100 584) (task 1 4 4 10 2 ∷ task 2 6 6 10 1 ∷ []) (judged kept (1 ∷ 3 ∷ []) (by 3 ∷ by 3 ∷ []) ∷ load 0 7 12 ∷ [])
    -- breaks 583
    ∷ on_one (processor 100 583) (task 1 4 4 10 2 ∷ task 2 6 6 10 1 ∷ []) (judged (broken_with Utilisation 0) (1 ∷ 3 ∷ []) (by 3 ∷ by 3 ∷ []) ∷ load 0 7 12 ∷ [])
    -- capacity 1 carries amounts 6 and 6 at period 12
    ∷ on_two 1 (task 1 12 12 10 2 ∷ task 1 12 12 10 1 ∷ []) (message 0 1 6 ∷ message 1 0 6 ∷ []) (judged kept (1 ∷ 1 ∷ []) (by 11 ∷ by 11 ∷ []) ∷ [])
    -- not 6 and 7
    ∷ on_two 1 (task 1 12 12 10 2 ∷ task 1 12 12 10 1 ∷ []) (message 0 1 6 ∷ message 1 0 7 ∷ []) (judged (broken_with Network 0) (1 ∷ 1 ∷ []) (by 11 ∷ by 11 ∷ []) ∷ [])
    -- 02: 1/16 prints 62, 3/16 prints 188; 1/2000 prints 0, 3/2000 prints 2, and 999.5/1000 prints 1000
    ∷ on_five (task 1 16 16 10 5 ∷ task 3 16 16 10 4 ∷ task 1 2000 2000 10 3 ∷ task 3 2000 2000 10 2 ∷ task 1999 2000 2000 10 1 ∷ [])
    (load 0 1 16 ∷ load 1 3 16 ∷ load 2 1 2000 ∷ load 3 3 2000 ∷ load 4 1999 2000 ∷ prints "load 0 62\nload 1 188\nload 2 0\nload 3 2\nload 4 1000\n" ∷ [])
    -- the limit is still tested on the exact load: 1/16 breaks limit 62, which it prints
    ∷ on_one (processor 100 62) (task 1 16 16 10 1 ∷ []) (judged (broken_with Utilisation 0) (1 ∷ []) (by 15 ∷ []) ∷ prints "load 0 62\n" ∷ [])
    -- and keeps 63
    ∷ on_one (processor 100 63) (task 1 16 16 10 1 ∷ []) (judged kept (1 ∷ []) (by 15 ∷ []) ∷ prints "load 0 62\n" ∷ [])
    ∷ []
