-- The open tasks are looked at one after the other.
use mathlib.Core.Path.{refl, ◌∙◌}
use native.Mathlib.Omega.{arith}
use borrow.Author.Rules.{rules}
use Rattle.mask.proofs.Visit.{visit_start, visit_member, visit_next}
use Rattle.candidates.proofs.Choosing.{choosing_start, choosing_in, choosing_out, choosing_end}
use Rattle.candidates.proofs.candidates_on.Goals as goal

pub site-site-requires : goal.site-site-requires
site-site-requires c = let l = c.requires.0.1.rules in omega (arith, c.requires.1, l.processors, l.sound.processors.most)

pub loop-k-init : goal.loop-k-init
loop-k-init c =
    rw (c.into_iter-k-iterator.ensures.into_iter_gives, c.members-k-items.ensures)
    (visit_start (search rules), refl, λ t l w knows. (choosing_start w.nogoods, knows))

pub join-joining-requires : goal.join-joining-requires
join-joining-requires c =
    let z = c.requires in
    let v = c.loop-k.invariant.2 z.0.0 z.0.1 z.0.2 z.0.3 in (
      (z.0.0, _, z.0.1, record { fits = z.0.2.fits; nogoods = v.0.list.nogoods }, c.site-site.ensures, v.1),
      rw c.site-site.ensures (visit_member c.loop-k.invariant.0 c.in-Some.ensures.steps),
      z.1,
    )

pub insert-set-requires : goal.insert-set-requires
insert-set-requires c =
    let z = c.requires in
    omega (arith, (z.0.2.fits.open_task _ (visit_member c.loop-k.invariant.0 c.in-Some.ensures.steps)).0, z.0.1.rules.sound.tasks.most)

pub loop-k-preserved-then-joining : goal.loop-k-preserved-then-joining
loop-k-preserved-then-joining c = (
  visit_next c.loop-k.invariant.0 c.in-Some.ensures.steps tt,
  c.join-joining.auto.list ∙ c.loop-k.invariant.1,
  λ t l w knows.
      let v = c.loop-k.invariant.2 t l w knows in
      let u = visit_member c.loop-k.invariant.0 c.in-Some.ensures.steps in
      let a = c.join-joining.ensures t _ l (record { fits = w.fits; nogoods = v.0.list.nogoods }) c.site-site.ensures v.1 in
      (rw (c.in-Some.ensures.steps.2, c.insert-set.ensures) (choosing_in v.0 u c.join-joining.result a.0 c.if-joining.true), a.1),
)

pub loop-k-preserved : goal.loop-k-preserved
loop-k-preserved c = (
  visit_next c.loop-k.invariant.0 c.in-Some.ensures.steps tt,
  c.join-joining.auto.list ∙ c.loop-k.invariant.1,
  λ t l w knows.
      let v = c.loop-k.invariant.2 t l w knows in
      let u = visit_member c.loop-k.invariant.0 c.in-Some.ensures.steps in
      let a = c.join-joining.ensures t _ l (record { fits = w.fits; nogoods = v.0.list.nogoods }) c.site-site.ensures v.1 in
      (rw c.in-Some.ensures.steps.2 (choosing_out v.0 u c.join-joining.result a.0 c.if-joining.false), a.1),
)

pub returns : goal.returns
returns c = λ t l w knows. let v = c.loop-k.invariant.2 t l w knows in (choosing_end v.0 c.in-None.ensures.steps.0, v.1)
