-- The least common multiple of two numbers and of n numbers; the greatest common divisor. Assumes nothing.
use Rattle.std.specs.Prelude.{ℕ, zero, suc, ◌*◌, ◌%◌, eqb}
use Rattle.std.specs.Int.{◌∣◌}
use Rattle.finite.specs.Finite.{first_from}

-- the least common multiple of a and b: the first of a, 2 a, .., b a that b divides (01: "the least common multiple of all periods")
unfoldable pub lcm : ℕ → ℕ → ℕ
lcm a b = a * first_from b (λ j. eqb (a * j % b) 0) 1

-- the least common multiple of f 0 .. f (n - 1); 1 where there are none
unfoldable pub lcm_to : ℕ → (ℕ → ℕ) → ℕ
lcm_to zero f = 1
lcm_to (suc n) f = lcm (lcm_to n f) (f n)

-- g is the greatest common divisor of a and b: it divides both, and every number that divides both divides it
pub record Gcd (a b g : ℕ) : Type 0 where
  pub left : g ∣ a
  pub right : g ∣ b
  pub greatest : (c : ℕ) → c ∣ a → c ∣ b → c ∣ g
