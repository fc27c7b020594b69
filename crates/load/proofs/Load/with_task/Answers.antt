-- `Load::with_task` meets its contract. Assumes nothing.
use native.Mathlib.Nat.{div-le_of_le-mul, mul-le-mul, mul-le-mul_right, add-le-add, le_trans, lt_of_le_of_lt}
use lib.Dec.{lit<}
use native.Mathlib.Omega.{arith}
use Rattle.load.proofs.Load.with_task.Goals as goal

pub overflow_mul-result : goal.overflow_mul-result
overflow_mul-result c = record { fits = lt_of_le_of_lt (mul-le-mul {n₂ = 1000000} {m₂ = 1000000000} (omega arith) (omega arith)) (lit< tt) }

pub overflow_add-result : goal.overflow_add-result
overflow_add-result c = record { fits = lt_of_le_of_lt (add-le-add {b = 23000000000} {d = 1000000000} (omega arith) (le_trans (div-le_of_le-mul _ (mul-le-mul_right _ (omega arith))) (omega arith))) (lit< tt) }
