-- The margin of a task (02, 2026-01). Assumes nothing.
use Rattle.std.specs.Prelude.{Bool, Option, Some, None, ℕ, zero, suc, ◌<◌, ℤ, pos, ◌-ℤ◌}
use Rattle.schedule.specs.Periodic.{Tasks}
use Rattle.schedule.specs.Response.{Least, worst_response}

-- 02: deadline minus the least solution; where that is 0, there is none up to the period, and the mark stands in its stead
abbrev pub margin_by : ℕ → ℕ → Option ℤ
margin_by d zero = None
margin_by d (suc r) = Some (pos d -ℤ pos (suc r))

-- 02: it is known while the least solution is at most the period
abbrev pub margin_of : Tasks → (ℕ → Bool) → ℕ → Option ℤ
margin_of s on i = margin_by (s.D i) (worst_response s on i)

-- the same as a statement, for a deadline d, a period t and the right side f of the equation: d - r, where r is the least solution and at most t; or the mark,
-- and every solution is above t
pub data MarginIs (f : ℕ → ℕ) (d t : ℕ) : Option ℤ → Type 0 where
  known : (r : ℕ) → 0 < r → Least f t r → MarginIs f d t (Some (pos d -ℤ pos r))
  beyond : Least f t 0 → MarginIs f d t None
