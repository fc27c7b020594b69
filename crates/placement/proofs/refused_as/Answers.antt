-- `refused_as` meets its contract. Assumes nothing.
use native.Mathlib.Omega.{arith}
use Rattle.layout.proofs.Places.{longest_is}
use Rattle.placement.proofs.refused_as.Goals as goal

pub overflow_add-result : goal.overflow_add-result
overflow_add-result c = omega (arith, longest_is)
