-- The response of a task (01, "Response and run"). Assumes nothing.
use Rattle.std.specs.Prelude.{◌≡◌, Bool, ◌&&◌, ℕ, ◌+◌, ◌-◌, ◌*◌, ◌/◌, ◌≤◌, ◌<◌, ltb, leb, eqb}
use Rattle.finite.specs.Finite.{only, sum_to, some_below, first_from}
use Rattle.schedule.specs.Periodic.{Tasks}

-- x / T, rounded up
unfoldable pub ceil : ℕ → ℕ → ℕ
ceil x T = (x + (T - 1)) / T

-- 01: for each task of higher priority in the set, its C times R / T rounded up, T being that task's
abbrev pub share : Tasks → (ℕ → Bool) → ℕ → ℕ → ℕ → ℕ
share s on i R j = only (on j && ltb (s.priority i) (s.priority j)) (ceil R (s.T j) * s.C j)

-- 01, equation 11 of 001: R is C plus the shares. This is its right side.
unfoldable pub demand : Tasks → (ℕ → Bool) → ℕ → ℕ → ℕ
demand s on i R = s.C i + sum_to s.count (share s on i R)

-- the least solution of f x ≡ x from 1 to d; 0 if there is none
unfoldable pub least_solution : (ℕ → ℕ) → ℕ → ℕ
least_solution f d = first_from d (λ x. eqb (f x) x) 1

-- the same as a statement: r is the least solution, and at most d; or r is 0, and every solution is above d.
-- It says so of all v with f v ≤ v, and the solutions are among them.
pub data Least (f : ℕ → ℕ) (d r : ℕ) : Type 0 where
  solved : 0 < r → r ≤ d → f r ≡ r → ((v : ℕ) → f v ≤ v → r ≤ v) → Least f d r
  unsolved : r ≡ 0 → ((v : ℕ) → f v ≤ v → d < v) → Least f d r

-- 02, 2026-01: the response calculation carries on up to the period; the least solution where it is at most the period, 0 where it is beyond
unfoldable pub worst_response : Tasks → (ℕ → Bool) → ℕ → ℕ
worst_response s on i = least_solution (demand s on i) (s.T i)

-- x where it is at most d, else 0
abbrev pub up_to : ℕ → ℕ → ℕ
up_to d x = only (leb x d) x

-- 01: the least solution is the response; 0 marks a task whose response is above D or that has none
unfoldable pub response : Tasks → (ℕ → Bool) → ℕ → ℕ
response s on i = up_to (s.D i) (worst_response s on i)

-- some task of the set has response 0
abbrev pub late_test : Tasks → (ℕ → Bool) → Bool
late_test s on = some_below s.count (λ i. on i && eqb (response s on i) 0)
