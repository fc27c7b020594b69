-- What the search on a table leaves.
use Rattle.std.specs.Prelude.{◌≡◌, false, Option, Some, None, List, ℕ}
use Rattle.table.specs.declared.Table.{Table}
use Rattle.rules.specs.Sets.{standing}
use Rattle.partial.specs.declared.Sizes.{Sizes}
use Rattle.goal.specs.Order.{EarlierThan}
use Rattle.region.specs.Region.{Witness}
use Rattle.first.specs.First.{InTime, nothing, SettledBy}
use Rattle.restarts.specs.declared.Listed.{Listed}
use Rattle.solve.specs.declared.Solved.{Solved}

-- how many there are of each in the table
pub record SizesOf (t : Table) (r : Sizes) : Type 0 where
  pub tasks : r.tasks ≡ t.tasks.count
  pub processors : r.processors ≡ t.processors.count
  pub messages : r.messages ≡ t.messages.count

-- the first good placement of all and every earlier one settled; or all placements settled
abbrev pub SolvesAs : Option (List ℕ) → Table → List ℕ → List ℕ → Listed → Type 0
SolvesAs (Some sets) t old new listed = Witness t (InTime t) (λ k p. false) sets × SettledBy t (EarlierThan (standing sets)) old nothing new listed
SolvesAs None t old new listed = SettledBy t (λ e. Unit {0}) old nothing new listed

abbrev pub SolvedAs : Table → List ℕ → List ℕ → Solved → Type 0
SolvedAs t old new r = SolvesAs r.placement t old new r.listed
