-- The search for weights of the capacity bound, which is right for any weights: no answer rests on these numbers.
use Rattle.std.specs.Prelude.{Bool, true, false, not, ◌&&◌, ◌||◌, cond, List, ℕ, ◌+◌, ◌-◌, ◌*◌, ◌/◌, ◌≤◌, ◌<◌, ltb, replicate}
use Rattle.subgradient.specs.Subgradient.{AtMost, total_of, adapt_of}
use Rattle.descent.specs.declared.Descent.{Descent}
use Rattle.descent.specs.declared.Pace.{Pace}

-- a direction in which no weight moves
abbrev pub nowhere : List ℕ
nowhere = replicate 24 256

-- what the search begins with: no weights have been tried
unfoldable pub begin_of : List ℕ → Pace → Descent
begin_of weights pace = record {
  weights = weights;
  direction = nowhere;
  moved = false;
  best = weights;
  least = 18446744073709551615;
  idle = 0;
  alpha = pace.alpha;
  calls = 0;
  rounds = pace.rounds;
}

-- the weights of a round are the best so far where its gap is the least; else it was one more round without gain
unfoldable pub compared_of : Descent → ℕ → ℕ → Descent
compared_of d gap calls =
    let gains = ltb gap d.least in
    record {
      weights = d.weights;
      direction = d.direction;
      moved = d.moved;
      best = cond gains d.weights d.best;
      least = cond gains gap d.least;
      idle = cond gains 0 (d.idle + 1);
      alpha = d.alpha;
      calls = d.calls + calls;
      rounds = d.rounds;
    }

-- after so many rounds without gain the next step is from the best weights, and goes two thirds as far
unfoldable pub turned_back_of : Descent → ℕ → Descent
turned_back_of d patience =
    cond (ltb d.idle patience)
    d
    (record {
      weights = d.best;
      direction = nowhere;
      moved = d.moved;
      best = d.best;
      least = d.least;
      idle = 0;
      alpha = d.alpha * 66 / 100;
      calls = d.calls;
      rounds = d.rounds;
    })

-- one step of the subgradient method; no round is left where it moves no weight
unfoldable pub advanced_of : Descent → List ℕ → ℕ → ℕ → ℕ → Descent
advanced_of d sets m left gap =
    let adapted = adapt_of d.weights d.direction (not d.moved) sets m left gap d.alpha in
    record {
      weights = adapted.weights;
      direction = adapted.direction;
      moved = true;
      best = d.best;
      least = d.least;
      idle = d.idle;
      alpha = d.alpha;
      calls = d.calls;
      rounds = cond adapted.still 0 (d.rounds - 1);
    }

-- no more weights are looked for: packing took too long, the steps have become too small, or the first gap is too far from 0
unfoldable pub ends_of : Descent → Pace → ℕ → ℕ → Bool
ends_of d pace left gap = (ltb pace.calls d.calls || ltb d.alpha 2) || (not d.moved && ltb (pace.far * total_of d.weights left) gap)

-- the same search without a round left
abbrev pub ended_of : Descent → Descent
ended_of d = record {
  weights = d.weights;
  direction = d.direction;
  moved = d.moved;
  best = d.best;
  least = d.least;
  idle = d.idle;
  alpha = d.alpha;
  calls = d.calls;
  rounds = 0;
}

-- the search after a round
unfoldable pub after_of : Descent → Pace → List ℕ → ℕ → ℕ → ℕ → ℕ → Descent
after_of d pace sets m left gap calls =
    let next = turned_back_of (compared_of d gap calls) pace.patience in
    cond (ends_of next pace left gap) (ended_of next) (advanced_of next sets m left gap)

-- numbers that a round can go on with
pub record Moves (d : Descent) : Type 0 where
  pub direction : AtMost 2048 d.direction
  pub alpha : d.alpha ≤ 100
  pub idle : d.idle + d.rounds ≤ 256
  pub calls : d.calls + 4294967296 * d.rounds < 18446744073709551616
