-- What the code that works out responses and margins needs of its arrays, and what it hands on.
use Rattle.std.specs.Prelude.{◌≡◌, List, ℕ, ltb, length, get_or}
use Rattle.finite.specs.Finite.{only}
use Rattle.table.specs.declared.Table.{Table}
use Rattle.schedule.specs.Periodic.{Tasks}
use Rattle.schedule.specs.Arrays.{InLimits}
use Rattle.rules.specs.Sets.{Placeable, sets_of}
use Rattle.judge.specs.declared.TaskTimes.{TaskTimes}
use Rattle.judge.specs.declared.Times.{Times}
use Rattle.judge.specs.Judge.{response_of, responses_of, margin_at, margins_of}
use Rattle.schedule.specs.declared.Timing.{Timing}

-- tasks within their limits, each processor's set among them, and a placement of them
pub record Placed (n : ℕ) (timing : Timing) (q sets : List ℕ) : Type 0 where
  pub limits : (p : ℕ) → InLimits n timing (get_or sets p 0)
  pub placeable : Placeable q
  pub long : length q ≡ n
  pub on : sets ≡ sets_of q

-- the response and the margin of one task, 0 and a known 0 beyond the n tasks; and those of all
abbrev pub times_at : ℕ → Tasks → List ℕ → ℕ → TaskTimes
times_at n s q k = record { response = only (ltb k n) (response_of s q k); margin = margin_at n s q k }

abbrev pub times_of : Table → List ℕ → Times
times_of t q = record { responses = responses_of t q; margins = margins_of t q }
