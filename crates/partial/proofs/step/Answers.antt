-- `step` meets its contract. Assumes nothing.
use mathlib.Core.Path.{refl, ap}
use native.Mathlib.Omega.{arith}
use Rattle.partial.specs.Tests.{step_after}
use Rattle.partial.proofs.Deciding.{bounds}
use Rattle.partial.proofs.NextState.{trial_enough, trial_step}
use Rattle.partial.proofs.step.Goals as goal

pub site-site-requires : goal.site-site-requires
site-site-requires c = (bounds c.requires.0.1 c.requires.0.2 c.args.k c.args.p c.requires.1 c.requires.2).1

pub attempt-requires : goal.attempt-requires
attempt-requires c = ((c.requires.0.0, _, c.requires.0.1, c.requires.0.2, c.site-site.ensures), rw c.site-site.ensures c.requires.1, c.requires.2)

pub returns-in_err-added : goal.returns-in_err-added
returns-in_err-added c =
    let tried = rw c.site-site.ensures at c.in_err-added.ensures in (
      rw c.from_residual.ensures (ap (step_after c.args.s c.args.k c.args.p _ _) tried),
      λ t e f. rw c.from_residual.ensures (trial_step e f c.args.k c.args.p c.requires.1 c.requires.2 tried),
    )

pub offset_bounds-instance-k : goal.offset_bounds-instance-k
offset_bounds-instance-k c = record { fits = omega (arith, (bounds c.requires.0.1 c.requires.0.2 c.args.k c.args.p c.requires.1 c.requires.2)) }

pub bounds-instance-k : goal.bounds-instance-k
bounds-instance-k c = (bounds c.requires.0.1 c.requires.0.2 c.args.k c.args.p c.requires.1 c.requires.2).0

pub offset_bounds-instance-k-2 : goal.offset_bounds-instance-k-2
offset_bounds-instance-k-2 c = record { fits = omega (arith, (bounds c.requires.0.1 c.requires.0.2 c.args.k c.args.p c.requires.1 c.requires.2)) }

pub bounds-instance-k-2 : goal.bounds-instance-k-2
bounds-instance-k-2 c = (bounds c.requires.0.1 c.requires.0.2 c.args.k c.args.p c.requires.1 c.requires.2).0

pub follow-next-requires : goal.follow-next-requires
follow-next-requires c =
    let p = c.requires in
    let b = bounds p.0.1 p.0.2 c.args.k c.args.p p.1 p.2 in (
      omega (arith, b.0),
      b.1,
      trial_enough p.0.1 p.0.2 c.args.k c.args.p p.1 p.2 (rw c.site-site.ensures at c.in_ok-added.ensures) refl,
    )

pub returns : goal.returns
returns c =
    let tried = rw c.site-site.ensures at c.in_ok-added.ensures in (
      rw c.follow-next.ensures (ap (step_after c.args.s c.args.k c.args.p _ _) tried),
      λ t e f. rw c.follow-next.ensures (trial_step e f c.args.k c.args.p c.requires.1 c.requires.2 tried),
    )
