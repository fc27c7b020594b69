-- Every open task is tested on every processor.
use mathlib.Core.Path.{ap}
use mathlib.Core.List.{List}
use Prim.Native.Nat.{ℕ}
use native.Mathlib.Omega.{arith}
use Rattle.region.specs.Begins.{with_may}
use Rattle.region.proofs.Lending.{lent_tasks}
use Rattle.narrowing.proofs.prepare.Goals as goal

pub all_below-all-requires : goal.all_below-all-requires
all_below-all-requires c = let l = c.requires.0.1.rules in omega (arith, l.processors, l.sound.processors.most)

pub narrow_all-may-requires : goal.narrow_all-may-requires
narrow_all-may-requires c = let z = c.requires in ((z.0.0, z.0.1, z.0.2), z.1, rw (lent_tasks z.0.1) z.0.3)

pub returns : goal.returns
returns c =
    let s = c.args.s in (
      rw (← c.is_full-full.ensures, ← c.all_below-all.ensures) (ap (λ (may : List ℕ). with_may s may) c.narrow_all-may.ensures.0),
      λ t l w k. rw (← lent_tasks l) c.narrow_all-may.ensures.1,
    )
