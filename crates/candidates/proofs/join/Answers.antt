-- What the rules forbid is not tested; what they allow is, and the cache of tested sets keeps saying what is true.
use native.Mathlib.Omega.{arith}
use mathlib.Core.Path.{ap}
use mathlib.Core.Bool.{not}
use Rattle.partial.proofs.Deciding.{free_at}
use Rattle.region.proofs.Lending.{lent_tasks, limits_with}
use Rattle.candidates.proofs.Choosing.{joins_broken, joins_tested}
use Rattle.candidates.proofs.join.Goals as goal

pub allows-requires : goal.allows-requires
allows-requires c = let z = c.requires in ((z.0.0, z.0.1, z.0.2.rules, z.0.3.fits, z.0.4), z.1, z.2)

pub returns-then-not-allows : goal.returns-then-not-allows
returns-then-not-allows c =
    λ t s l w e knows. (
      joins_broken l.rules.sound w.fits c.args.k c.args.p (free_at s c.args.k c.args.p e c.requires.1) (rw (← l.rules.processors) c.requires.2)
          c.allows.result (c.allows.ensures.1 t s l.rules w.fits e) (ap not c.if-not-allows.true) w.nogoods,
      knows,
    )

pub insert-set-requires : goal.insert-set-requires
insert-set-requires c =
    let z = c.requires in
    omega (arith, (z.0.3.fits.open_task _ (free_at z.0.1 c.args.k c.args.p z.0.4 z.1)).0, z.0.2.rules.sound.tasks.most)

pub test-tested-requires : goal.test-tested-requires
test-tested-requires c =
    let z = c.requires in
    let l = z.0.2 in
    rw (c.insert-set.ensures, z.0.4)
    (limits_with l z.0.3.fits c.args.k (free_at z.0.1 c.args.k c.args.p z.0.4 z.1) c.args.p, rw (lent_tasks l) z.0.3.nogoods, rw (lent_tasks l) z.0.5)

pub returns : goal.returns
returns c =
    λ t s l w e knows. (
      joins_tested l.rules.sound w.fits c.args.k c.args.p (free_at s c.args.k c.args.p e c.requires.1) (rw (← l.rules.processors) c.requires.2)
          c.allows.result (c.allows.ensures.1 t s l.rules w.fits e) (ap not c.if-not-allows.false) c.test-tested.result (rw (lent_tasks l, c.insert-set.ensures, e) at c.test-tested.ensures.0),
      rw (lent_tasks l) at c.test-tested.ensures.1,
    )
