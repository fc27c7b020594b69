-- `put_conflicts` meets its contract: the lines of the first j conflicts stand there.
use mathlib.Core.Path.{◌≡◌}
use Prim.Native.Nat.{◌+◌, ◌*◌, ◌≤◌}
use lib.ListN.{length}
use Rattle.wire.specs.Wire.{Put, pieces}
use Rattle.answer.specs.Answer.{mask_at}
use Rattle.lines.specs.Lines.{conflict_line}
use Rattle.report.proofs.put_conflicts.Given as goal

abbrev pub invariant-loop-j : goal.invariant-loop-j
invariant-loop-j l = (l.j ≤ l.count) × (l.end ≤ l.at + 128 * l.j) × (length l.text ≡ length l.initial.text) × Put l.initial.text l.at (pieces l.j (λ i. conflict_line l.n (mask_at l.list i))) l.text l.end
