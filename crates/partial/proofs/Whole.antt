-- A state with no open task is a whole placement. Assumes nothing.
use mathlib.Core.Path.{◌≡◌}
use Rattle.mask.proofs.Laws.{has_zero}
use Rattle.table.specs.declared.Table.{Table}
use Rattle.partial.specs.declared.State.{State}
use Rattle.partial.specs.Partial.{Whole, Fits}

pub fits_whole : {t : Table} {s : State} → Fits t s → s.left ≡ 0 → Whole t s.on
fits_whole f e = record { partial = f.partial; somewhere = λ k l. f.placed_task k l (λ u. rw (e, has_zero k) at u) }
