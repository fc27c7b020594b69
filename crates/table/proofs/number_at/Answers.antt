-- `number_at` meets its contract. Assumes nothing.
use native.Mathlib.Omega.{arith}
use Rattle.table.proofs.number_at.Goals as goal

pub byte_at-requires : goal.byte_at-requires
byte_at-requires c = omega (arith, rw c.in-One.is at c.requires)

pub half_at-requires : goal.half_at-requires
half_at-requires c = rw c.in-Two.is at c.requires

pub word_at-requires : goal.word_at-requires
word_at-requires c = rw c.in-Four.is at c.requires

pub returns-in-One : goal.returns-in-One
returns-in-One c = rw c.in-One.is c.byte_at.ensures.0

pub returns-in-Two : goal.returns-in-Two
returns-in-Two c = rw c.in-Two.is c.half_at.ensures.0

pub returns-in-Four : goal.returns-in-Four
returns-in-Four c = rw c.in-Four.is c.word_at.ensures
