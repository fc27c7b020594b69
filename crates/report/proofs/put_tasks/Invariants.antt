-- `put_tasks` meets its contract: the lines of the first k tasks stand there.
use mathlib.Core.Path.{◌≡◌}
use mathlib.Core.List.{List}
use Prim.Native.Nat.{ℕ, ◌+◌, ◌*◌, ◌≤◌}
use lib.IntN.{ℤ}
use Rattle.std.specs.Prelude.{Option}
use lib.ListN.{length, get_or}
use Rattle.wire.specs.Wire.{Put, pieces}
use Rattle.judge.specs.Judge.{known_zero}
use Rattle.lines.specs.Lines.{task_line}
use Rattle.report.proofs.put_tasks.Given as goal

-- the line of task k with the margin m, and with its own, by the arrays
abbrev pub line_by : List ℕ → List ℕ → Option ℤ → List ℕ → ℕ → List ℕ
line_by q responses m deadlines k = task_line (record { task = k; processor = get_or q k 0; response = get_or responses k 0; deadline = get_or deadlines k 0; margin = m })

abbrev pub line_of : List ℕ → List ℕ → List (Option ℤ) → List ℕ → ℕ → List ℕ
line_of q responses margins deadlines k = line_by q responses (get_or margins k known_zero) deadlines k

abbrev pub invariant-loop-k : goal.invariant-loop-k
invariant-loop-k l = (l.k ≤ length l.placement) × (l.end ≤ l.at + 192 * l.k) × (length l.text ≡ length l.initial.text) × Put l.initial.text l.at (pieces l.k (line_of l.placement l.judged.responses l.judged.margins l.deadlines)) l.text l.end
