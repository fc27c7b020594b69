-- `repeated` meets its contract. Assumes nothing.
use mathlib.Core.Path.{◌≡◌}
use mathlib.Core.Bool.{false}
use Prim.Native.Nat.{ℕ, ◌+◌, ◌≤◌, ◌<◌}
use lib.Dec.{eqb}
use Rattle.wire.specs.Wire.{number}
use Rattle.layout.specs.Format.{place_in}
use Rattle.verdict.proofs.repeated.Given as goal

abbrev pub invariant-loop-j : goal.invariant-loop-j
invariant-loop-j l =
    (l.j ≤ l.n) × (l.sought ≡ number l.file (l.at + l.offset) 2)
    × ((k : ℕ) → k < l.j → eqb (number l.file (place_in l.series k + l.offset) 2) (number l.file (l.at + l.offset) 2) ≡ false)
