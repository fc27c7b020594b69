-- `sets_of` meets its contract. Assumes nothing.
use mathlib.Core.List.{List}
use Prim.Native.Nat.{ℕ, ◌<◌}
use native.Mathlib.Omega.{arith}
use lib.ListN.{length, get_or}
use Rattle.rules.specs.Sets.{Placeable}
use Rattle.rules.proofs.SetsLoop.{placing_start, placing_next, placing_end}
use Rattle.rules.proofs.sets_of.Goals as goal

-- the byte names a processor, of a task below 24
known : {q : List ℕ} → Placeable q → (k : ℕ) → k < length q → (get_or q k 0 < 8) × (k < 24)
known p k l = (p.known k l, omega (arith, p.few))

pub loop-k-init : goal.loop-k-init
loop-k-init c = placing_start

pub offset_bounds-sets-p : goal.offset_bounds-sets-p
offset_bounds-sets-p c = record { fits = omega (arith, c.from-p.ensures, known c.requires c.loop-k.k c.loop-k-test.true) }

pub bounds-sets-p : goal.bounds-sets-p
bounds-sets-p c = omega (arith, c.from-p.ensures, known c.requires c.loop-k.k c.loop-k-test.true)

pub insert-requires : goal.insert-requires
insert-requires c = omega (arith, known c.requires c.loop-k.k c.loop-k-test.true)

pub offset_bounds-sets-p-in-loop-k : goal.offset_bounds-sets-p-in-loop-k
offset_bounds-sets-p-in-loop-k c = record { fits = omega (arith, c.from-p.ensures, known c.requires c.loop-k.k c.loop-k-test.true) }

pub bounds-sets-p-in-loop-k : goal.bounds-sets-p-in-loop-k
bounds-sets-p-in-loop-k c = omega (arith, c.from-p.ensures, known c.requires c.loop-k.k c.loop-k-test.true)

pub loop-k-preserved : goal.loop-k-preserved
loop-k-preserved c =
    let p = c.from-p.ensures in
    placing_next c.loop-k.invariant c.loop-k-test.true p (omega (arith, p, known c.requires c.loop-k.k c.loop-k-test.true)) c.insert.ensures

pub returns : goal.returns
returns c = placing_end c.loop-k.invariant c.loop-k-test.false
