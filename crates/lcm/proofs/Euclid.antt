-- Euclid's algorithm: its step keeps the greatest common divisor, and it ends at one. Assumes nothing.
use Prim.Native.Nat.{ℕ, ◌%◌}
use native.Mathlib.Nat.{dvd_refl, dvd-zero, dvd-mod_iff}
use Rattle.lcm.specs.Lcm.{Gcd}

pub gcd_step : (x y : ℕ) {g : ℕ} → Gcd y (x % y) g → Gcd x y g
gcd_step x y {g} h = record {
  left = (dvd-mod_iff g h.left).0 h.right;
  right = h.left;
  greatest = λ c p q. h.greatest c q ((dvd-mod_iff c q).1 p);
}

pub gcd_zero : (x : ℕ) → Gcd x 0 x
gcd_zero x = record { left = dvd_refl x; right = dvd-zero x; greatest = λ c p q. p }
