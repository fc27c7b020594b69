-- The work of one task in a hyperperiod. Assumes nothing.
use Prim.Native.Nat.{ℕ, ◌*◌, ◌/◌, ◌≤◌}
use native.Mathlib.Nat.{mul-le-mul_right, div-le_of_le-mul}

-- it is at most the whole of it, as C is at most T
pub work_le : (c t h : ℕ) → c ≤ t → c * h / t ≤ h
work_le c t h l = div-le_of_le-mul t (mul-le-mul_right h l)
