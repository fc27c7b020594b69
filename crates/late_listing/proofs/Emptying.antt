-- What is left of a processor is small, so that what its tasks took can be added. Assumes nothing.
use Prim.Native.Nat.{ℕ, ◌*◌, ◌≤◌, ◌<◌}
use native.Mathlib.Nat.{mul-le-mul}
use native.Mathlib.Omega.{arith}
use lib.Dec.{T}
use lib.ListN.{get_or}
use Rattle.mask.specs.Mask.{below}
use Rattle.table.specs.declared.Table.{Table}
use Rattle.partial.specs.declared.Sizes.{Sizes}
use Rattle.partial.specs.declared.State.{State}
use Rattle.partial.specs.Partial.{Lent, Fits}
use Rattle.region.proofs.Lending.{set_below}
use Rattle.candidates.proofs.Choosing.{below_more}
use Rattle.rows.specs.declared.Rows.{Rows}
use Rattle.rows.specs.declared.Messages.{Messages}

module _ {t : Table} {sizes : Sizes} {rows : Rows} {links : Messages} {s : State} (l : Lent t sizes rows links) (f : Fits t s) (p : ℕ) where
  pub few_on : T (below 24 (get_or s.on p 0))
  few_on = below_more t.tasks.count 24 (get_or s.on p 0) l.sound.tasks.most (set_below f.partial p)

  module _ (low : p < sizes.processors) where
    pub small_memory : get_or s.memory p 0 < 4294967296
    small_memory = let i : p < t.processors.count = omega (arith, l.processors) in omega (arith, f.memory p i, l.sound.processors.memory.fits p)

    pub small_load : get_or s.load p 0 ≤ 1000000000
    small_load =
        let i : p < t.processors.count = omega (arith, l.processors) in
        let most : get_or t.processors.limit p 0 * t.hyperperiod ≤ 1000 * 1000000000 = mul-le-mul (l.sound.processors.most_limit p i) l.sound.hyperperiod_most in
        omega (arith, f.load p i, most)
