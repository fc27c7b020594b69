-- One step of the subgradient method on the weights of the weight bound, which is right for any weights: no answer rests on these numbers.
use Rattle.std.specs.Prelude.{Bool, ◌&&◌, ◌||◌, cond, List, ℕ, ◌+◌, ◌-◌, ◌*◌, ◌/◌, ◌≤◌, ◌<◌, min, eqb, ltb, get_or}
use Rattle.finite.specs.Finite.{only, sum_to, tabulate}
use Rattle.mask.specs.Mask.{has, sum_over}
use Rattle.subgradient.specs.declared.Adapted.{Adapted}

-- no number of the 24 tasks is above the limit
pub record AtMost (limit : ℕ) (row : List ℕ) : Type 0 where
  pub each : (k : ℕ) → k < 24 → get_or row k 0 ≤ limit

-- how many of the first m sets take task k
abbrev pub count_of : List ℕ → ℕ → ℕ → ℕ
count_of sets m k = sum_to m (λ p. only (has (get_or sets p 0) k) 1)

-- the same for each task
abbrev pub counts_of : List ℕ → ℕ → List ℕ
counts_of sets m = tabulate 24 (count_of sets m)

-- the counts with one set more
abbrev pub counted_of : List ℕ → ℕ → List ℕ
counted_of counts set = tabulate 24 (λ k. get_or counts k 0 + only (has set k) 1)

-- the direction of a task in 256ths: 256 where its weight should stay, above where it should fall; with momentum after the first step
abbrev pub direction_from : Bool → ℕ → ℕ → ℕ
direction_from first before count = cond first (256 * count) ((6 * before + 4 * 256 * count) / 10)

-- the same for each task
abbrev pub direction_of : Bool → List ℕ → List ℕ → List ℕ
direction_of first before counts = tabulate 24 (λ k. direction_from first (get_or before k 0) (get_or counts k 0))

-- how far a direction is from 256
abbrev pub distance : ℕ → ℕ
distance d = (d - 256) + (256 - d)

-- the square of the direction's length over the open tasks
abbrev pub norm_of : List ℕ → ℕ → ℕ
norm_of direction left = sum_over 24 left (λ k. distance (get_or direction k 0) * distance (get_or direction k 0))

-- the weight of a set of tasks
abbrev pub total_of : List ℕ → ℕ → ℕ
total_of weights set = sum_over 24 set (λ k. get_or weights k 0)

-- no set of tasks weighs more
abbrev pub heaviest : ℕ
heaviest = 24 * 4294967295

-- how far a step goes: the gap and a 200th of the scale, by alpha in per cent
abbrev pub stride_of : ℕ → ℕ → ℕ → ℕ
stride_of gap scale alpha = (gap + scale / 200 + 1) * alpha / 100

-- how much the weight of a task with the direction d changes
abbrev pub change_of : ℕ → ℕ → ℕ → ℕ
change_of d stride norm = stride * distance d * 256 / norm

-- a weight stays below 2^28
abbrev pub limited : ℕ → ℕ
limited x = min x 268435455

-- a weight after the step: less where the direction is above 256, more where it is below
abbrev pub moved_weight : ℕ → ℕ → ℕ → ℕ → ℕ
moved_weight weight d stride norm = limited (cond (ltb d 256) (weight + change_of d stride norm) (weight - change_of d stride norm))

-- the weights after the step: those of the open tasks move
abbrev pub moved_of : List ℕ → List ℕ → ℕ → ℕ → ℕ → List ℕ
moved_of weights direction left stride norm = tabulate 24 (λ k. cond (has left k) (moved_weight (get_or weights k 0) (get_or direction k 0) stride norm) (get_or weights k 0))

-- a total is off scale: not 0, and below 2^21 or above 2^23
abbrev pub off_scale : ℕ → Bool
off_scale total = ltb 0 total && (ltb total 2097152 || ltb 8388608 total)

-- the weights, where their total is made about 2^22
abbrev pub scaled_of : List ℕ → ℕ → List ℕ
scaled_of weights total = tabulate 24 (λ k. limited (get_or weights k 0 * 4194304 / total))

-- the weights, rescaled where the total of the open tasks is off scale
abbrev pub rescaled_of : List ℕ → ℕ → List ℕ
rescaled_of weights left = cond (off_scale (total_of weights left)) (scaled_of weights (total_of weights left)) weights

-- the weights after a step in a direction: moved, then rescaled
abbrev pub step_of : List ℕ → List ℕ → ℕ → ℕ → ℕ → List ℕ
step_of weights direction left gap alpha = rescaled_of (moved_of weights direction left (stride_of gap (total_of weights left) alpha) (norm_of direction left)) left

-- the same, where they stay if the norm is 0
unfoldable pub stepped : List ℕ → List ℕ → ℕ → ℕ → ℕ → List ℕ
stepped weights direction left gap alpha = cond (eqb (norm_of direction left) 0) weights (step_of weights direction left gap alpha)

-- one step of the method: from the sets that the first m processors pack best to the next direction and weights
unfoldable pub adapt_of : List ℕ → List ℕ → Bool → List ℕ → ℕ → ℕ → ℕ → ℕ → Adapted
adapt_of weights before first sets m left gap alpha =
    let direction = direction_of first before (counts_of sets m) in
    record { weights = stepped weights direction left gap alpha; direction = direction; still = eqb (norm_of direction left) 0 }
