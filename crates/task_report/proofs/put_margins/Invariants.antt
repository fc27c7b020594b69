-- `put_margins` meets its contract: from the place behind the responses on stand the first k margins.
use mathlib.Core.Path.{◌≡◌}
use mathlib.Core.List.{map}
use Prim.Native.Nat.{◌+◌, ◌*◌, ◌≤◌}
use lib.ListN.{length, take}
use lib.Seq.{sets}
use Rattle.task_report.specs.Report.{margin_number}
use Rattle.task_report.proofs.put_margins.Given as goal

abbrev pub invariant-loop-k : goal.invariant-loop-k
invariant-loop-k l = (l.k ≤ l.n) × (2 * l.n + 2 ≤ length l.out) × (l.out ≡ sets l.initial.out (2 + l.n) (map margin_number (take l.k l.margins)))
