-- At most 8 million millionths.
use native.Mathlib.Nat.{mul-le-mul}
use native.Mathlib.Omega.{arith}
use borrow.Author.Rules.{rules}
use Rattle.static_order.specs.StaticOrder.{scaled_of}
use Rattle.static_order.proofs.scaled.Goals as goal

pub overflow_mul-part : goal.overflow_mul-part
unfolding scaled_of
overflow_mul-part c = record { fits = omega (arith, mul-le-mul {n₁ = c.args.part} {m₁ = c.args.processors} {n₂ = 1000000} {m₂ = 8} c.requires.0 c.requires.1) }

pub overflow_mul-part-2 : goal.overflow_mul-part-2
unfolding scaled_of
overflow_mul-part-2 c = record { fits = omega (arith, mul-le-mul {n₁ = c.args.part} {m₁ = c.args.processors} {n₂ = 1000000} {m₂ = 8} c.requires.0 c.requires.1) }

pub lower-requires : goal.lower-requires
unfolding scaled_of
lower-requires c = search rules

pub returns : goal.returns
unfolding scaled_of
returns c = (c.lower.ensures, search rules)
