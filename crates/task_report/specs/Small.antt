-- What the code that writes the numbers needs of them.
use Rattle.std.specs.Prelude.{◌≡◌, ℕ, ◌≤◌, length, get_or}
use Rattle.layout.specs.Format.{longest}
use Rattle.judge.specs.declared.Judged.{Judged}
use Rattle.judge.specs.Judge.{check_concerned}

-- numbers that 32 bits with a sign can hold, and a margin in each of 24 places
pub record Small (j : Judged) : Type 0 where
  pub concerned : check_concerned j.check ≤ longest
  pub responses : (k : ℕ) → get_or j.responses k 0 ≤ 1000000
  pub margins : length j.margins ≡ 24
