-- What the search needs of the rows that guide it: the other rows are as they were. Assumes nothing.
use mathlib.Core.Path.{◌≡◌, refl}
use Rattle.partial.specs.declared.Sizes.{Sizes}
use Rattle.partial.specs.declared.State.{State}
use Rattle.static_order.specs.StaticOrder.{ordered_of}
use Rattle.static_order.specs.Kept.{Kept}
use Rattle.schedule.specs.declared.Timing.{Timing}
use Rattle.rows.specs.declared.Rows.{Rows}
use Rattle.rows.specs.declared.Messages.{Messages}

pub ordered_rows : (timing : Timing) (rows : Rows) (messages : Messages) (sizes : Sizes) (s : State) {r : Rows} → r ≡ ordered_of timing rows messages sizes s → Kept rows r
unfolding ordered_of
ordered_rows timing rows messages sizes s e = rw e (record { residence = refl; load = refl; memory = refl; exclusions = refl; partners = refl })
