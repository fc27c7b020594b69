-- The messages that must cross the network, and do not yet.
use Rattle.std.specs.Prelude.{Bool, not, ◌&&◌, ◌||◌, List, ℕ, get_or}
use Rattle.finite.specs.Finite.{only, sum_to, some_below}
use Rattle.mask.specs.Mask.{has}
use Rattle.partial.specs.declared.State.{State}
use Rattle.knapsack.specs.Knapsack.{joined}
use Rattle.rows.specs.declared.Messages.{Messages}

-- one of the two tasks is open, and they cannot meet: they are excluded from each other, or no processor has or can take both
abbrev pub must_cross : List ℕ → State → List ℕ → ℕ → ℕ → ℕ → Bool
must_cross exclusions s sets m from to =
    (has s.left from || has s.left to)
    && (has (get_or exclusions from 0) to || not (some_below m (λ p. joined (get_or s.on p 0) (get_or sets p 0) from && joined (get_or s.on p 0) (get_or sets p 0) to)))

-- what the messages between such tasks amount to
unfoldable pub crossing_of : List ℕ → Messages → ℕ → State → List ℕ → ℕ → ℕ
crossing_of exclusions links count s sets m = sum_to count (λ j. only (must_cross exclusions s sets m (get_or links.sender j 0) (get_or links.receiver j 0)) (get_or links.amount j 0))
