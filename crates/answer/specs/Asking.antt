-- What is asked of a test of numbers, and what it answers. Assumes nothing.
use Rattle.std.specs.Prelude.{◌≡◌, Bool, ℕ, ◌<◌}

-- it may be asked of each number below n
abbrev pub AskedBelow : (ℕ → Type 0) → ℕ → Type 0
AskedBelow may n = (j : ℕ) → j < n → may j

-- of each it answers what p says
abbrev pub Answers : (ℕ → Bool → Type 0) → ℕ → (ℕ → Bool) → Type 0
Answers gives n p = (j : ℕ) → j < n → (r : Bool) → gives j r → r ≡ p j
