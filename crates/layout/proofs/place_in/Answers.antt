-- `place_in` meets its contract. Assumes nothing.
use native.Mathlib.Omega.{arith}
use Rattle.layout.specs.Format.{place_in}
use Rattle.layout.proofs.Places.{longest_is}
use Rattle.layout.proofs.place_in.Goals as goal

pub overflow_mul-result : goal.overflow_mul-result
unfolding place_in
overflow_mul-result c = omega (arith, longest_is)

pub overflow_add-result : goal.overflow_add-result
unfolding place_in
overflow_add-result c = omega (arith, longest_is)

pub returns : goal.returns
unfolding place_in
returns c = omega arith
