-- The sets with the next task, then those without it; a set that is late ends the recursion, and so does one that can stand nowhere.
use Prim.Native.Nat.{◌-◌}
use native.Mathlib.Omega.{arith}
use borrow.Author.Rules.{rules}
use borrow.Author.Tests.{not-true, not-false}
use Rattle.nogoods.proofs.Covers.{known_verdict}
use Rattle.region.proofs.Lending.{lent_tasks, lent_limits}
use Rattle.late_sets.proofs.Joining.{one_more_lem}
use Rattle.late_sets.proofs.Recursion.{next_task, not_last, wider_continues, wider_below, without_continues, wider_possible, covers_nowhere, covers_tested, covers_wider, without_possible, covers_both, covers_stopped, covers_end, covers_none}
use Rattle.late_sets.proofs.+cover_supersets_cover_with_next.Goals as goal

pub cover_supersets-returns-then-subset-instance : goal.cover_supersets-returns-then-subset-instance
cover_supersets-returns-then-subset-instance t c = λ links u l w k. ((λ f m in_time. covers_end l.rules w in_time c.if-subset-instance.true), w.nogoods, k)

pub cover_supersets-returns-then-steps-eq0 : goal.cover_supersets-returns-then-steps-eq0
cover_supersets-returns-then-steps-eq0 t c = λ links u l w k. ((λ f m in_time. covers_none w.nogoods), w.nogoods, k)

pub cover_supersets-cover_with_next-with_it-requires : goal.cover_supersets-cover_with_next-with_it-requires
cover_supersets-cover_with_next-with_it-requires t c =
    let a = c.requires in
    let z = a.1 in
    (omega (arith, c.decreases), (a, rw z.1.rules.tasks (not_last z.1.rules z.2 c.if-subset-instance.false)))

pub cover_supersets-returns-then-not-with_it : goal.cover_supersets-returns-then-not-with_it
cover_supersets-returns-then-not-with_it t c =
    λ links u l w k. let v = c.cover_with_next-with_it.ensures links u l w k in
    ((λ f m in_time. covers_stopped l.rules w c.cover_with_next-with_it.result (v.0 f m) (not-true _ c.if-not-with_it.true)), v.1, v.2)

pub cover_supersets-overflow_add-without : goal.cover_supersets-overflow_add-without
cover_supersets-overflow_add-without t c =
    let z = c.requires.1 in
    omega (arith, z.2.upto, z.1.rules.sound.tasks.most)

pub cover_supersets-cover_supersets-requires : goal.cover_supersets-cover_supersets-requires
cover_supersets-cover_supersets-requires t c =
    let a = c.requires in
    let z = a.1 in
    let next = not_last z.1.rules z.2 c.if-subset-instance.false in
    let v = c.cover_with_next-with_it.ensures a.0 z.0 z.1 z.2 z.3 in
    (omega (arith, c.decreases, c.if-subset-instance.false, z.2.upto, z.1.rules.tasks), (a.0, (z.0, z.1, without_continues z.1.rules z.2 next v.1, v.2)))

pub cover_supersets-returns : goal.cover_supersets-returns
cover_supersets-returns t c =
    λ links u l w k. let next = not_last l.rules w c.if-subset-instance.false in
    let v = c.cover_with_next-with_it.ensures links u l w k in
    let i = c.cover_supersets.ensures links u l (without_continues l.rules w next v.1) v.2 in (
      (λ f m in_time. covers_both l.rules w c.cover_with_next-with_it.result (v.0 f m) (not-false _ c.if-not-with_it.false) c.cover_supersets.result (i.0 f (without_possible l.rules w m) in_time)),
      i.1,
      i.2,
    )

pub cover_with_next-with_next-wider-requires : goal.cover_with_next-with_next-wider-requires
cover_with_next-with_next-wider-requires t c =
    let z = c.requires in
    let l = z.0.1.1.rules in
    (omega (arith, z.1, l.tasks, l.sound.tasks.most), omega (arith, l.processors, l.sound.processors.most), z.0.1.2.small)

pub cover_with_next-returns-then-wider-eq0 : goal.cover_with_next-returns-then-wider-eq0
cover_with_next-returns-then-wider-eq0 t c =
    λ links u l w k. let next = next_task l.rules w c.requires.1 in
    ((λ f m. covers_nowhere l.rules w f m next (rw c.with_next-wider.ensures.0 at c.if-wider-eq0.true)), w.nogoods, k)

pub cover_with_next-is_late-requires : goal.cover_with_next-is_late-requires
cover_with_next-is_late-requires t c =
    let z = c.requires in
    let l = z.0.1.1 in
    let next = next_task l.rules z.0.1.2 z.1 in
    rw c.with_next-wider.ensures.0 (lent_limits l (wider_below l.rules z.0.1.2 c.args.s next), rw (lent_tasks l) z.0.1.3.late)

pub cover_with_next-cover_supersets-requires : goal.cover_with_next-cover_supersets-requires
cover_with_next-cover_supersets-requires t c =
    let o = c.args in
    let a = c.requires in
    let z = a in
    let l = z.0.1.1 in
    let next = next_task l.rules z.0.1.2 z.1 in
    let e = c.with_next-wider.ensures in (
      rw e.0 (omega (arith, c.decreases, z.1, one_more_lem o.instance.now.rows o.instance.now.sizes.processors o.s o.subset)),
      (z.0.0, (z.0.1.0, l, rw e.0 (wider_continues l.rules z.0.1.2 o.s next (rw e.0 at e.1)), known_verdict z.0.1.3 _ _ (rw (lent_tasks l) at c.is_late.ensures.1) c.is_late.ensures.2)),
    )

pub cover_with_next-returns-then-not-is_late : goal.cover_with_next-returns-then-not-is_late
cover_with_next-returns-then-not-is_late t c =
    λ links u l w k. let e = c.with_next-wider.ensures in
    let next = next_task l.rules w c.requires.1 in
    let in_time = rw (c.if-not-is_late.true, lent_tasks l) at c.is_late.ensures.0 in
    let v = c.cover_supersets.ensures links u l (rw e.0 (wider_continues l.rules w c.args.s next (rw e.0 at e.1))) (known_verdict k _ _ (rw (lent_tasks l) at c.is_late.ensures.1) c.is_late.ensures.2) in
    ((λ f m. covers_wider l.rules w (rw e.0 at (v.0 f (rw e.0 (wider_possible l.rules w f m next)) in_time))), v.1, v.2)

pub cover_with_next-test-tested-requires : goal.cover_with_next-test-tested-requires
cover_with_next-test-tested-requires t c =
    let z = c.requires in
    let l = z.0.1.1 in
    let next = next_task l.rules z.0.1.2 z.1 in
    let knows = known_verdict z.0.1.3 _ _ (rw (lent_tasks l) at c.is_late.ensures.1) c.is_late.ensures.2 in
    rw c.with_next-wider.ensures.0 (lent_limits l (wider_below l.rules z.0.1.2 c.args.s next), rw (lent_tasks l) z.0.1.2.nogoods, rw (lent_tasks l) knows)

pub cover_with_next-returns : goal.cover_with_next-returns
cover_with_next-returns t c =
    λ links u l w k. let next = next_task l.rules w c.requires.1 in
    let noted = rw (lent_tasks l, c.with_next-wider.ensures.0) at c.test-tested.ensures.0 in (
      (λ f m. covers_tested l.rules w f m next (rw c.with_next-wider.ensures.0 at c.if-wider-eq0.false) c.test-tested.result noted),
      noted.list.nogoods,
      rw (lent_tasks l) at c.test-tested.ensures.1,
    )
