-- The tests are those of the processor as the state has it. Assumes nothing.
use mathlib.Core.Path.{sym, ◌∙◌}
use native.Mathlib.Omega.{arith}
use borrow.Author.Tests.{lt-leb, le-leb}
use Rattle.partial.proofs.MaskSets.{meets_if, meets_not}
use Rattle.partial.proofs.Deciding.{free_at, bounds}
use Rattle.partial.proofs.Trying.{trial_unsuited, trial_parted, trial_beyond, trial_made}
use Rattle.partial.proofs.MessageSum.{small_messages}
use Rattle.partial.proofs.attempt.Goals as goal

pub suits-requires : goal.suits-requires
suits-requires c = let z = c.requires.0 in let b = bounds z.2 z.3 c.args.k c.args.p (free_at z.1 c.args.k c.args.p z.4 c.requires.1) c.requires.2 in (b.0, omega (arith, b.1))

pub returns-then-not-suits : goal.returns-then-not-suits
returns-then-not-suits c = trial_unsuited _ _ _ _ _ _ (sym c.suits.ensures ∙ c.if-not-suits.true)

pub neither-others-requires : goal.neither-others-requires
neither-others-requires c =
    let z = c.requires.0 in
    (bounds z.2 z.3 c.args.k c.args.p (free_at z.1 c.args.k c.args.p z.4 c.requires.1) c.requires.2).2

pub offset_bounds-instance-k : goal.offset_bounds-instance-k
offset_bounds-instance-k c = record { fits = omega (arith, (let z = c.requires.0 in (bounds z.2 z.3 c.args.k c.args.p (free_at z.1 c.args.k c.args.p z.4 c.requires.1) c.requires.2).0)) }

pub bounds-instance-k : goal.bounds-instance-k
bounds-instance-k c = (let z = c.requires.0 in (bounds z.2 z.3 c.args.k c.args.p (free_at z.1 c.args.k c.args.p z.4 c.requires.1) c.requires.2).0)

pub returns-then-instance-k-ne0 : goal.returns-then-instance-k-ne0
returns-then-instance-k-ne0 c = trial_parted _ _ _ _ _ _ c.neither-others.ensures (meets_if _ _ c.if-instance-k-ne0.true)

pub between-added-requires : goal.between-added-requires
between-added-requires c = small_messages c.requires.0.2

pub returns-then-added-site : goal.returns-then-added-site
returns-then-added-site c =
    trial_beyond _ _ _ _ _ _ c.neither-others.ensures (sym c.suits.ensures ∙ c.if-not-suits.false) (meets_not _ _ c.if-instance-k-ne0.false) c.between-added.ensures
    (lt-leb _ _ c.if-added-site.true)

pub returns : goal.returns
returns c =
    trial_made _ _ _ _ _ _ c.neither-others.ensures (sym c.suits.ensures ∙ c.if-not-suits.false) (meets_not _ _ c.if-instance-k-ne0.false) c.between-added.ensures
    (le-leb _ _ c.if-added-site.false)
