-- The load of a processor in thousandths of a full one (02, 2026-02). The exact value is 1000 × load / H. Assumes nothing.
use Rattle.std.specs.Prelude.{◌≡◌, cond, ℕ, ◌+◌, ◌-◌, ◌*◌, ◌/◌, ◌%◌, ◌≤◌, ltb}

-- low + rest / h, for a rest below h, to the nearest whole number: low, or the next one, or at exactly half way the even one of the two
abbrev pub nearer : ℕ → ℕ → ℕ → ℕ
nearer low rest h = cond (ltb (2 * rest) h) low (cond (ltb h (2 * rest)) (low + 1) (low + low % 2))

-- 02: the nearest thousandth, an exact half to the even one
unfoldable pub nearest : ℕ → ℕ → ℕ
nearest load h = nearer (1000 * load / h) (1000 * load % h) h

-- how far apart two numbers are
abbrev pub distance : ℕ → ℕ → ℕ
distance x y = (x - y) + (y - x)

-- the same as a statement: y thousandths differ from the exact value by at most half a thousandth, and y is even where it is exactly half.
-- All is multiplied by H, to have whole numbers: the exact value is then 1000 × load, y thousandths are y × H, and half a thousandth is half of H.
pub record Nearest (load h y : ℕ) : Type 0 where
  pub near : 2 * distance (1000 * load) (y * h) ≤ h
  pub even : 2 * distance (1000 * load) (y * h) ≡ h → y % 2 ≡ 0
