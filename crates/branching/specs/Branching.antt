-- Which open task the search places next. No answer rests on the choice.
use Rattle.std.specs.Prelude.{cond, List, [], ◌∷◌, ℕ, zero, suc, ◌+◌, ◌*◌, ◌/◌, eqb, ltb, get_or}
use Rattle.finite.specs.Finite.{only, sum_to}
use Rattle.mask.specs.Mask.{has, lowest_of}
use Rattle.heuristics.specs.declared.Heuristics.{Heuristics}
use Rattle.heuristics.specs.Heuristics.{next_state, after_blame, after_noise}

-- the task that is picked, and the heuristics then
pub record Picked : Type 0 where
  pub task : ℕ
  pub heuristics : Heuristics

-- the members of a set, in rising order, among the n numbers from k on
unfoldable pub members_from : ℕ → ℕ → ℕ → List ℕ
members_from zero k x = []
members_from (suc n) k x = cond (has x k) (k ∷ members_from n (suc k) x) (members_from n (suc k) x)

-- how many of the processors may take task k
abbrev pub choices_of : List ℕ → ℕ → ℕ → ℕ
choices_of may processors k = sum_to processors (λ p. only (has (get_or may p 0) k) 1)

-- the random number that is drawn next, below 128
abbrev pub noise_of : Heuristics → ℕ
noise_of heuristics = next_state heuristics.guide.random / 16777216

-- few choices, which count squared, for a large weight; the noise adds up to an eightieth or so
abbrev pub score_of : ℕ → ℕ → ℕ → ℕ → ℕ
score_of base failed choices noise = let plain = choices * choices * 67108864 / (base + failed + 1) in plain + plain / 1024 * noise / 10

-- the score of task k, by its base weight, the processors that may take it, and the heuristics
abbrev pub score_in : List ℕ → List ℕ → ℕ → Heuristics → ℕ → ℕ
score_in base may processors heuristics k = score_of (get_or base k 0) (get_or heuristics.guide.failures k 0) (choices_of may processors k) (noise_of heuristics)

-- of the tasks, and the best so far, the one with the lowest score; one that no processor may take is answered at once, and blamed
unfoldable pub pick_from : List ℕ → List ℕ → ℕ → List ℕ → ℕ → ℕ → Heuristics → Picked
pick_from base may processors [] best least heuristics = record { task = best; heuristics = heuristics }
pick_from base may processors (k ∷ rest) best least heuristics =
    let better = ltb (score_in base may processors heuristics k) least in
    cond (eqb (choices_of may processors k) 0) (record { task = k; heuristics = after_blame heuristics k })
    (pick_from base may processors rest (cond better k best) (cond better (score_in base may processors heuristics k) least) (after_noise heuristics))

-- the open task that the search places next
abbrev pub pick_of : List ℕ → ℕ → ℕ → List ℕ → Heuristics → Picked
pick_of base processors left may heuristics = pick_from base may processors (members_from 32 0 left) (lowest_of 32 left) 18446744073709551615 heuristics
