-- How large the shares of a mask's members are together. Assumes nothing.
use Prim.Native.Nat.{ℕ, ◌*◌, ◌≤◌}
use lib.ListN.{get_or}
use Rattle.mask.proofs.Laws.{sum_most}
use Rattle.schedule.specs.Arrays.{share_of, shares_of, SmallShares}
use Rattle.schedule.proofs.Ceil.{share_le}
use Rattle.schedule.specs.declared.Timing.{Timing}

pub shares_bound : {rows : Timing} {others : ℕ} → SmallShares rows others → (x : ℕ) → x ≤ 1000000 → shares_of rows others x ≤ 24 * 1000000000000
shares_bound {rows} {others} small x low = sum_most 24 others (share_of rows x) 1000000000000 (λ j u.
    share_le x (get_or rows.period j 0) (get_or rows.work j 0) 1000000 1000000 (small.some_period j u) low (small.little_work j u))
