-- What the search needs of the rows that guide it.
use Rattle.std.specs.Prelude.{◌≡◌}
use Rattle.rows.specs.declared.Rows.{Rows}

-- the rows that do not guide the search are as they were
pub record Kept (old new : Rows) : Type 0 where
  pub residence : new.residence ≡ old.residence
  pub load : new.load ≡ old.load
  pub memory : new.memory ≡ old.memory
  pub exclusions : new.exclusions ≡ old.exclusions
  pub partners : new.partners ≡ old.partners
