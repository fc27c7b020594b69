-- The tasks of the set are looked at one after the other; those that may not stand are taken out.
use mathlib.Core.Path.{sym, ◌∙◌}
use Prim.Native.Nat.{◌<◌}
use native.Mathlib.Omega.{arith}
use borrow.Author.Rules.{rules}
use lib.Dec.{T}
use Rattle.mask.specs.Mask.{has}
use Rattle.mask.proofs.Visit.{visit_start, visit_member, visit_next}
use Rattle.partial.proofs.Deciding.{free_at}
use Rattle.narrowing.specs.Narrowing.{narrow_of}
use Rattle.narrowing.proofs.Filtering.{filtering_start, filtering_keep, filtering_drop, filtering_end}
use Rattle.narrowing.proofs.narrow.Goals as goal
use Rattle.narrowing.proofs.narrow.Goals.{In-Some}

-- the task that is looked at is open
waits : (c : In-Some) → T (has c.args.site.left c.in-Some.k)
waits c = c.requires.1 _ (visit_member c.loop-k.invariant.0 c.in-Some.ensures.steps)

low : (c : In-Some) → c.in-Some.k < 24
low c =
    let z = c.requires.0 in
    omega (arith, (z.3.open_task _ (free_at z.1 c.in-Some.k c.args.p z.4 (waits c))).0, z.2.rules.sound.tasks.most)

pub loop-k-init : goal.loop-k-init
unfolding narrow_of
loop-k-init c =
    rw (c.into_iter-k-iterator.ensures.into_iter_gives, c.members-k-items.ensures)
    (visit_start (search rules), filtering_start _ (search rules), c.requires.4)

pub may_stand-requires : goal.may_stand-requires
unfolding narrow_of
may_stand-requires c =
    let z = c.requires in
    (z.0, waits (goal.at.may_stand-requires c).In-Some, z.2, z.3, c.loop-k.invariant.2)

pub remove-kept-requires : goal.remove-kept-requires
unfolding narrow_of
remove-kept-requires c = omega (arith, low (goal.at.remove-kept-requires c).In-Some)

pub loop-k-preserved-then-not-may_stand : goal.loop-k-preserved-then-not-may_stand
unfolding narrow_of
loop-k-preserved-then-not-may_stand c =
    let i = c.loop-k.invariant in
    let s = c.in-Some.ensures.steps in
    let m = c.may_stand.ensures in
    (visit_next i.0 s tt, filtering_drop i.1 s.2 c.remove-kept.ensures (sym m.0 ∙ c.if-not-may_stand.true), m.1)

pub loop-k-preserved : goal.loop-k-preserved
unfolding narrow_of
loop-k-preserved c =
    let i = c.loop-k.invariant in
    let s = c.in-Some.ensures.steps in
    let m = c.may_stand.ensures in
    (visit_next i.0 s tt, filtering_keep i.1 s.2 (sym m.0 ∙ c.if-not-may_stand.false), m.1)

pub returns : goal.returns
unfolding narrow_of
returns c = let v = c.loop-k.invariant in (filtering_end v.1 c.in-None.ensures.steps.0, v.2)
