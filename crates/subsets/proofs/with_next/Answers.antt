-- Each field of the subset with its next task.
use mathlib.Core.Path.{refl}
use native.Mathlib.Omega.{arith}
use borrow.Author.Rules.{rules}
use Rattle.subsets.specs.Subsets.{with_next}
use Rattle.subsets.proofs.with_next.Goals as goal

pub insert-requires : goal.insert-requires
unfolding with_next
insert-requires c = search rules

pub share-requires : goal.share-requires
unfolding with_next
share-requires c = search rules

pub processors_for-processors-requires : goal.processors_for-processors-requires
unfolding with_next
processors_for-processors-requires c = search rules

pub returns : goal.returns
unfolding with_next
returns c =
    let small = c.requires.2 in (
      rw (c.processors_for-processors.ensures, c.share-2.ensures.0, c.share.ensures.0, c.insert.ensures) refl,
      record { memory = omega (arith, c.share.ensures.1, small.memory); load = omega (arith, c.share-2.ensures.1, small.load) },
    )
