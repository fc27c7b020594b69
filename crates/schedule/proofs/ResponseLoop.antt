-- The loop that repeats equation 11: its invariant and its laws. Assumes nothing.
use mathlib.Core.Path.{◌≡◌, sym, ◌∙◌}
use Prim.Native.Nat.{ℕ, ◌-◌, ◌≤◌, ◌<◌}
use native.Mathlib.Omega.{arith}
use Rattle.schedule.specs.Response.{least_solution}
use Rattle.schedule.proofs.FixedPoint.{Iterate, exceeded, reached, step}

-- x is within the limit, and on the way to the least solution
pub record Repeating (f : ℕ → ℕ) (limit most x : ℕ) : Type 0 where
  pub rises : (x y : ℕ) → x ≤ y → f x ≤ f y
  pub works : (x : ℕ) → 0 < f x
  pub bound : most ≡ limit
  pub low : x ≤ limit
  pub way : Iterate f x

module _ {f : ℕ → ℕ} {limit most x y : ℕ} (w : Repeating f limit most x) (e : y ≡ f x) where
  pub repeat_step : y ≤ most → Repeating f limit most y
  repeat_step k = record { rises = w.rises; works = w.works; bound = w.bound; low = omega (arith, w.bound); way = rw e (step f w.rises x w.way) }

  pub repeat_falls : (y ≡ x → ⊥) → y ≤ most → most - y < most - x
  repeat_falls n k = omega (arith, w.way.grows)

  -- it no longer changes, or passes the limit
  pub repeat_reached : y ≡ x → y ≡ least_solution f limit
  repeat_reached k = k ∙ sym (reached f w.rises w.works limit x w.way (sym e ∙ k) w.low)

  pub repeat_exceeded : most < y → 0 ≡ least_solution f limit
  repeat_exceeded k = sym (exceeded f w.rises w.works limit (f x) (step f w.rises x w.way) (omega (arith, w.bound)))
