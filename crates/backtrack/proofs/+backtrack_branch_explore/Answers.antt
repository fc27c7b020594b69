-- Every processor is passed over, one after the other from the first on; or the search ends at one of them. The tasks left fall with each call.
use native.Mathlib.Omega.{arith}
use borrow.Author.Tests.{not-true, not-false}
use mathlib.Core.Path.{refl, sym, ◌∙◌}
use Rattle.symmetry.proofs.Asking.{asks}
use Rattle.backtrack.proofs.Backtracking.{backtracked_neither, backtracked_end, bounded_begins, bounded_hopeless, bounded_then}
use Rattle.backtrack.proofs.Backtracking.{open_low, open_below, picked_waits, explored_narrowed, explored_symmetric, explored_closed, explored_begins, explored_falls, explored_open}
use Rattle.backtrack.proofs.Backtracking.{backtracking_start, backtracking_begins, backtracking_stop, backtracking_next, backtracking_end}
use Rattle.backtrack.proofs.+backtrack_branch_explore.Goals as goal

pub backtrack-returns-then-gives_up : goal.backtrack-returns-then-gives_up
backtrack-returns-then-gives_up t c = λ u l b k. (backtracked_neither b (c.gives_up.ensures c.if-gives_up.true), k)

pub backtrack-returns-then-s-eq0 : goal.backtrack-returns-then-s-eq0
backtrack-returns-then-s-eq0 t c = λ u l b k. (backtracked_end b c.if-s-eq0.true, k)

pub backtrack-bound-bounded-requires : goal.backtrack-bound-bounded-requires
backtrack-bound-bounded-requires t c = c.requires

pub backtrack-returns-then-bounded : goal.backtrack-returns-then-bounded
backtrack-returns-then-bounded t c =
    λ u l b k. let m = c.bound-bounded.ensures.0 u l b k in
    (bounded_hopeless c.bound-bounded.result m.0 c.if-bounded.true, m.1)

pub backtrack-branch-instance-requires : goal.backtrack-branch-instance-requires
backtrack-branch-instance-requires t c =
    let a = c.requires in
    let b = a in
    let m = c.bound-bounded.ensures.0 b.0 b.1 b.2 b.3 in
    (omega (arith, c.decreases), ((b.0, b.1, bounded_begins c.bound-bounded.result m.0 b.2, m.1), omega (arith, c.if-s-eq0.false)))

pub backtrack-shape_of-list : goal.backtrack-shape_of-list
backtrack-shape_of-list t c = c.branch-instance.auto.list ∙ c.bound-bounded.auto.list

pub backtrack-returns : goal.backtrack-returns
backtrack-returns t c =
    λ u l b k. let m = c.bound-bounded.ensures.0 u l b k in
    let y = c.branch-instance.ensures u l (bounded_begins c.bound-bounded.result m.0 b) m.1 in
    (bounded_then c.bound-bounded.result m.0 c.branch-instance.result y.0, y.1)

pub branch-pick-k-requires : goal.branch-pick-k-requires
branch-pick-k-requires t c =
    let a = c.requires in
    let l = a.0.1.rules in
    (omega (arith, l.processors, l.sound.processors.most), open_below l.sound a.0.2.fits, a.1)

pub branch-offset-first-requires : goal.branch-offset-first-requires
branch-offset-first-requires t c =
    let l = c.requires.0.1 in
    omega (arith, l.rules.processors, l.rules.sound.processors.some)

pub branch-loop-i-init : goal.branch-loop-i-init
branch-loop-i-init t c = (omega arith, refl, λ u l b k. (backtracking_start b c.pick-k.result c.offset-first.result _ c.offset-first.ensures, k))

pub branch-turned-p-requires : goal.branch-turned-p-requires
branch-turned-p-requires t c =
    let l = c.requires.0.1 in
    (c.offset-first.ensures, c.loop-i-test.true, omega (arith, l.rules.processors, l.rules.sound.processors.most))

pub branch-explore-explored-requires : goal.branch-explore-explored-requires
branch-explore-explored-requires t c =
    let a = c.requires in
    let u = a.0.0 in
    let l = a.0.1 in
    let b = a.0.2 in
    let k = a.0.3 in
    let v = c.loop-i.invariant.2 u l b k in
    (omega (arith, c.decreases), ((u, l, backtracking_begins v.0 b, v.1), picked_waits l.rules.sound b.fits _ _ _ _ c.pick-k.ensures.0 a.1, c.turned-p.ensures.0))

pub branch-shape_of-list-in_default : goal.branch-shape_of-list-in_default
branch-shape_of-list-in_default t c = c.explore-explored.auto.list ∙ c.loop-i.invariant.1

pub branch-returns-in_default : goal.branch-returns-in_default
branch-returns-in_default t c =
    λ u l b k. let v = c.loop-i.invariant.2 u l b k in
    let e = c.explore-explored.ensures u l (backtracking_begins v.0 b) v.1 in
    (backtracking_stop v.0 c.explore-explored.result e.0 c.in_default.not-Nothing, e.1)

pub branch-loop-i-smaller : goal.branch-loop-i-smaller
branch-loop-i-smaller t c = omega (arith, c.loop-i-test.true)

pub branch-loop-i-preserved : goal.branch-loop-i-preserved
branch-loop-i-preserved t c =
    let r = c.turned-p.ensures in (
      omega (arith, c.loop-i-test.true),
      c.explore-explored.auto.list ∙ c.loop-i.invariant.1,
      λ u l b k. let v = c.loop-i.invariant.2 u l b k in
          let e = c.explore-explored.ensures u l (backtracking_begins v.0 b) v.1 in
          (backtracking_next v.0 c.explore-explored.result e.0 r.0 r.1 c.in-Nothing.is, e.1),
    )

pub branch-blame-requires : goal.branch-blame-requires
branch-blame-requires t c =
    let a = c.requires in
    let h = a.0.1.rules.sound in
    open_low h a.0.2.fits _ (picked_waits h a.0.2.fits _ _ _ _ c.pick-k.ensures.0 a.1)

pub branch-shape_of-list : goal.branch-shape_of-list
branch-shape_of-list t c = c.loop-i.invariant.1

pub branch-returns : goal.branch-returns
branch-returns t c =
    λ u l b k. let v = c.loop-i.invariant.2 u l b k in
    let waits = picked_waits l.rules.sound b.fits _ _ _ _ c.pick-k.ensures.0 c.requires.1 in
    (backtracking_end v.0 b.fits (omega (arith, c.loop-i-test.false)) (b.fits.open_task c.pick-k.result waits).0 l.rules.processors, v.1)

pub explore-offset_bounds-s-p : goal.explore-offset_bounds-s-p
explore-offset_bounds-s-p t c = let a = c.requires in let l = a.0.1.rules in record { fits = omega (arith, a.2, l.processors, l.sound.processors.most) }

pub explore-bounds-s-p : goal.explore-bounds-s-p
explore-bounds-s-p t c = let a = c.requires in let l = a.0.1.rules in omega (arith, a.2, l.processors, l.sound.processors.most)

pub explore-has-requires : goal.explore-has-requires
explore-has-requires t c = let a = c.requires in omega (arith, open_low a.0.1.rules.sound a.0.2.fits _ a.1)

pub explore-returns-then-not-has : goal.explore-returns-then-not-has
explore-returns-then-not-has t c =
    λ u l b k. (
      explored_narrowed _ b (not-true c.args.mode.listing c.if-not-mode.true) c.requires.1 (omega (arith, c.requires.2, l.rules.processors))
          (λ v. absurd (rw (sym c.has.ensures ∙ c.if-not-has.true) at v)),
      k,
    )

pub explore-representative-requires : goal.explore-representative-requires
explore-representative-requires t c = let a = c.requires in (a.0.0, asks a.0.1.rules a.0.2.fits a.2)

pub explore-returns-then-representative-p : goal.explore-returns-then-representative-p
explore-returns-then-representative-p t c =
    λ u l b k. (explored_symmetric _ b (c.representative.ensures u (asks l.rules b.fits c.requires.2)) c.if-representative-p.true, k)

pub explore-enter-entered-requires : goal.explore-enter-entered-requires
explore-enter-entered-requires t c = let a = c.requires in ((a.0.0, a.0.1, a.0.2, a.0.3.knows), a.1, a.2)

pub explore-returns-in_default : goal.explore-returns-in_default
explore-returns-in_default t c =
    λ u l b k. let e = c.enter-entered.ensures u l b k.knows in
    (explored_closed c.enter-entered.result e.0 c.in_default.is, record { knows = e.1; keeps = k.keeps })

pub explore-backtrack-requires : goal.explore-backtrack-requires
explore-backtrack-requires t c =
    let a = c.requires in
    let k = a.0.3 in
    let e = c.enter-entered.ensures a.0.0 a.0.1 a.0.2 k.knows in
    let f = c.in-Some.is in (
      omega (arith, c.decreases, explored_falls c.enter-entered.result e.0 f a.1),
      (a.0.0, a.0.1, explored_begins c.enter-entered.result e.0 f, record { knows = e.1; keeps = k.keeps }),
    )

pub explore-returns : goal.explore-returns
explore-returns t c =
    λ u l b k. let e = c.enter-entered.ensures u l b k.knows in
    let f = c.in-Some.is in
    let x = c.backtrack.ensures u l (explored_begins c.enter-entered.result e.0 f) (record { knows = e.1; keeps = k.keeps }) in
    (explored_open c.enter-entered.result e.0 f c.backtrack.result x.0, x.1)
