-- `put_loads` meets its contract: the lines of the first p processors stand there.
use mathlib.Core.Path.{◌≡◌}
use Prim.Native.Nat.{◌+◌, ◌*◌, ◌≤◌}
use lib.ListN.{length}
use Rattle.wire.specs.Wire.{Put, pieces}
use Rattle.lines.specs.Lines.{load_line}
use Rattle.report.specs.Report.{thousandths}
use Rattle.report.proofs.put_loads.Given as goal

abbrev pub invariant-loop-p : goal.invariant-loop-p
invariant-loop-p l = (l.p ≤ l.table.processors.count) × (l.end ≤ l.at + 128 * l.p) × (length l.text ≡ length l.initial.text) × Put l.initial.text l.at (pieces l.p (λ j. load_line j (thousandths l.table l.placement j))) l.text l.end
