-- `conflict_line` meets its contract: behind the word stand the members below k.
use mathlib.Core.Path.{◌≡◌}
use Prim.Native.Nat.{◌+◌, ◌*◌, ◌≤◌}
use lib.ListN.{length}
use Rattle.wire.specs.Wire.{Put, pieces}
use Rattle.lines.specs.Lines.{member}
use Rattle.lines.proofs.conflict_line.Given as goal

abbrev pub invariant-loop-k : goal.invariant-loop-k
invariant-loop-k l = (l.k ≤ l.n) × (l.end ≤ l.initial.end + 3 * l.k) × (length l.text ≡ length l.initial.text) × Put l.initial.text l.initial.end (pieces l.k (member l.mask)) l.text l.end
