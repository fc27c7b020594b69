-- All is tested anew, or the processors that the task reaches.
use mathlib.Core.Path.{sym, ◌∙◌}
use native.Mathlib.Omega.{arith}
use Rattle.region.proofs.Lending.{lent_tasks}
use Rattle.narrowing.proofs.refresh.Goals as goal

pub all_below-all-requires : goal.all_below-all-requires
all_below-all-requires c = let l = c.requires.0.1.rules in omega (arith, l.processors, l.sound.processors.most)

pub narrow_all-requires : goal.narrow_all-requires
narrow_all-requires c = let z = c.requires in ((z.0.0, z.0.1, z.0.2), z.1, rw (lent_tasks z.0.1) z.0.3)

pub returns-then-is_full : goal.returns-then-is_full
returns-then-is_full c =
    (rw (sym c.is_full.ensures ∙ c.if-is_full.true, ← c.all_below-all.ensures) c.narrow_all.ensures.0, λ t l w k. rw (← lent_tasks l) c.narrow_all.ensures.1)

pub narrow_all-requires-then-reaches : goal.narrow_all-requires-then-reaches
narrow_all-requires-then-reaches c = let z = c.requires in ((z.0.0, z.0.1, z.0.2), z.1, rw (lent_tasks z.0.1) z.0.3)

pub returns-then-reaches : goal.returns-then-reaches
returns-then-reaches c = (
  rw (sym c.is_full.ensures ∙ c.if-is_full.false, sym c.reaches.ensures ∙ c.if-reaches.true, ← c.all_below-all.ensures) c.narrow_all-then-reaches.ensures.0,
  λ t l w k. rw (← lent_tasks l) c.narrow_all-then-reaches.ensures.1,
)

pub narrow_all-requires-2 : goal.narrow_all-requires-2
narrow_all-requires-2 c = let z = c.requires in ((z.0.0, z.0.1, z.0.2), z.1, rw (lent_tasks z.0.1) z.0.3)

pub returns : goal.returns
returns c = (
  rw (sym c.is_full.ensures ∙ c.if-is_full.false, sym c.reaches.ensures ∙ c.if-reaches.false, ← c.insert-only.ensures) c.narrow_all-2.ensures.0,
  λ t l w k. rw (← lent_tasks l) c.narrow_all-2.ensures.1,
)
