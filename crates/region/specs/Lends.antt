-- What is lent to the search: the numbers of a table, a row for each.
use Rattle.std.specs.Prelude.{◌≡◌, List, ℕ}
use Rattle.table.specs.declared.Table.{Table}
use Rattle.timing.specs.Timing.{timing_of}
use Rattle.partial.specs.declared.Sizes.{Sizes}
use Rattle.partial.specs.Partial.{Lent}
use Rattle.schedule.specs.declared.Timing.{Timing}
use Rattle.rows.specs.declared.Rows.{Rows}
use Rattle.rows.specs.declared.Messages.{Messages}

-- the table whose rows are lent, with those of the response calculation
pub record Lends (t : Table) (sizes : Sizes) (timing : Timing) (rows : Rows) (links : Messages) : Type 0 where
  pub rules : Lent t sizes rows links
  pub same_timing : timing ≡ timing_of t
