-- The sum of the products, as it is defined.
use mathlib.Core.Path.{refl}
use native.Mathlib.Omega.{arith}
use borrow.Author.Rules.{rules}
use Rattle.bound_cache.specs.BoundCache.{entry_of}
use Rattle.bound_cache.proofs.entry_of.Goals as goal

pub wide-requires : goal.wide-requires
unfolding entry_of
wide-requires c = search rules

pub returns : goal.returns
unfolding entry_of
returns c = rw (c.wide.ensures.0, c.wide-2.ensures.0) (refl, omega arith)
