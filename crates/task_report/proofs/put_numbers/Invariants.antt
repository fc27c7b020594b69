-- `put_numbers` meets its contract: behind the head stand the first k responses, then the margins.
use mathlib.Core.Path.{◌≡◌}
use mathlib.Core.List.{map}
use Prim.Native.Nat.{◌+◌, ◌*◌, ◌≤◌}
use lib.IntN.{pos}
use lib.ListN.{length, take}
use lib.Seq.{sets}
use Rattle.task_report.proofs.put_numbers.Given as goal

abbrev pub invariant-loop-k : goal.invariant-loop-k
invariant-loop-k l = (l.k ≤ l.n) × (2 * l.n + 2 ≤ length l.out) × (l.out ≡ sets l.initial.out 2 (map pos (take l.k l.judged.responses)))
