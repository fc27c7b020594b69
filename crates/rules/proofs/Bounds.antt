-- A hyperperiod is not 0, and what a message is in it is small: nothing wraps. Assumes nothing.
use Prim.Native.Nat.{ℕ, ◌*◌, ◌≤◌, ◌<◌}
use native.Mathlib.Omega.{arith}
use native.Mathlib.Nat.{div-le_self, mul-le-mul}
use lib.ListN.{get_or}
use Rattle.lcm.proofs.Laws.{lcm_to_pos}
use Rattle.table.specs.declared.Table.{Table}
use Rattle.table.specs.Sound.{Sound}
use Rattle.table.proofs.Times.{some_period}
use Rattle.rules.specs.Rules.{amount_of}

pub some_tick : {t : Table} → Sound t → 1 ≤ t.hyperperiod
some_tick {t} h = omega (arith, h.hyperperiod, lcm_to_pos t.tasks.count (λ j. get_or t.tasks.t j 0) (some_period h))

pub amount_bound : (t : Table) → Sound t → (j : ℕ) → j < t.messages.count → (get_or t.messages.amount j 0 * t.hyperperiod ≤ 1000000000000000) × (amount_of t j ≤ 1000000000000000)
amount_bound t s j l =
    let product : get_or t.messages.amount j 0 * t.hyperperiod ≤ 1000000 * 1000000000 = mul-le-mul (s.messages.most_amount j l) s.hyperperiod_most in
    (omega arith, omega (arith, div-le_self (get_or t.messages.amount j 0 * t.hyperperiod) (get_or t.tasks.t (get_or t.messages.sender j 0) 0)))
