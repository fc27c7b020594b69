-- What the rules forbid is not tested; what they allow is.
use mathlib.Core.Path.{refl, sym, ap, ◌∙◌}
use mathlib.Core.Bool.{not}
use native.Mathlib.Omega.{arith}
use Rattle.partial.proofs.Deciding.{free_at}
use Rattle.region.proofs.Lending.{limits_with}
use Rattle.narrowing.proofs.may_stand.Goals as goal

pub allows-requires : goal.allows-requires
allows-requires c = let z = c.requires in ((z.0.0, z.0.1, z.0.2.rules, z.0.3, z.0.4), z.1, z.2)

pub returns-then-not-allows : goal.returns-then-not-allows
returns-then-not-allows c =
    (rw (sym c.allows.ensures.0 ∙ c.if-not-allows.true) refl, c.requires.4)

pub insert-set-requires : goal.insert-set-requires
insert-set-requires c =
    let z = c.requires in
    omega (arith, (z.0.3.open_task _ (free_at z.0.1 c.args.k c.args.p z.0.4 z.1)).0, z.0.2.rules.sound.tasks.most)

pub passed_over-requires : goal.passed_over-requires
passed_over-requires c =
    let z = c.requires in
    let l = z.0.2 in
    (rw (c.insert-set.ensures, z.0.4) (limits_with l z.0.3 c.args.k (free_at z.0.1 c.args.k c.args.p z.0.4 z.1) c.args.p), z.3, z.4)

pub returns : goal.returns
returns c =
    (rw (sym c.allows.ensures.0 ∙ c.if-not-allows.false, ← c.insert-set.ensures) (ap not c.passed_over.ensures.0), c.passed_over.ensures.1)
