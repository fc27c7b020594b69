-- The members of a mask. Assumes nothing.
use mathlib.Core.Path.{◌≡◌, ap, sym, ◌∙◌}
use mathlib.Core.Bool.{Bool, cond}
use mathlib.Core.List.{[]}
use Prim.Native.Nat.{ℕ}
use Rattle.mask.specs.Mask.{has}
use Rattle.lines.specs.Lines.{spaced, member}

-- whether k is a member is known
pub member_is : (mask k : ℕ) {b c : Bool} → b ≡ has mask k → b ≡ c → member mask k ≡ cond c (spaced k) []
member_is mask k e q = ap (λ (t : Bool). cond t (spaced k) []) (sym e ∙ q)
