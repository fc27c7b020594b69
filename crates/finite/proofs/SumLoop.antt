-- The loop that sums those terms that a test lets pass: its invariant and its laws. Assumes nothing.
use mathlib.Core.Path.{◌≡◌, refl, ap, ◌∙◌}
use mathlib.Core.Bool.{Bool, true, false}
use Prim.Native.Nat.{ℕ, ◌+◌, ◌*◌, ◌≤◌, ◌<◌}
use native.Mathlib.Nat.{suc-mul}
use native.Mathlib.Numerals.{add-one}
use native.Mathlib.Omega.{arith}
use Rattle.finite.specs.Finite.{only, sum_to}

-- of the terms below k, each at most b, those that pass
pub record Summing (n : ℕ) (p : ℕ → Bool) (f : ℕ → ℕ) (b k sum : ℕ) : Type 0 where
  pub upto : k ≤ n
  pub value : sum ≡ sum_to k (λ j. only (p j) (f j))
  pub small : sum ≤ k * b

module _ {n : ℕ} {p : ℕ → Bool} {f : ℕ → ℕ} {b : ℕ} where
  pub summing_start : Summing n p f b 0 0
  unfolding sum_to
  summing_start = record { upto = omega arith; value = refl; small = omega arith }

  module _ {k sum : ℕ} (w : Summing n p f b k sum) where
    pub summing_in : {v : ℕ} → k < n → p k ≡ true → v ≡ f k → v ≤ b → Summing n p f b (k + 1) (sum + v)
    unfolding sum_to
    summing_in {v} l e q s = rw add-one (record { upto = omega arith; value = rw e (omega (arith, w.value)); small = rw suc-mul (omega (arith, w.small)) })

    pub summing_out : k < n → p k ≡ false → Summing n p f b (k + 1) sum
    unfolding sum_to
    summing_out l e = rw add-one (record { upto = omega arith; value = rw e (omega (arith, w.value)); small = rw suc-mul (omega (arith, w.small)) })

    pub summing_end : n ≤ k → sum ≡ sum_to n (λ j. only (p j) (f j))
    summing_end l = let e : k ≡ n = omega (arith, w.upto) in w.value ∙ ap (λ (x : ℕ). sum_to x (λ j. only (p j) (f j))) e
