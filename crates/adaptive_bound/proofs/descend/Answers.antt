-- One round after another, each after the bounds before it. The measure is how many rounds are left, and one more while the region is not given up.
use mathlib.Core.Path.{◌≡◌, refl, ◌∙◌}
use Prim.Native.Nat.{ℕ, ◌<◌}
use native.Mathlib.Omega.{arith}
use Rattle.candidates.proofs.Choosing.{below_more, open_below}
use Rattle.capacity_bound.proofs.Bounding.{weighable_then, bounded_not, bounded_then}
use Rattle.descent.proofs.Moving.{begin_moves, after_later}
use Rattle.adaptive_bound.proofs.descend.Goals as goal

-- a round was left
some : (n : ℕ) → (n ≡ 0 → ⊥) → 0 < n
some n f = omega arith

pub loop-hopeless-init : goal.loop-hopeless-init
loop-hopeless-init c = let z = c.requires in (refl, rw c.begin-descent.ensures (begin_moves _ _ z.2 z.3), λ t l w k. (bounded_not w.nogoods, k))

pub weigh-weighed-requires : goal.weigh-weighed-requires
weigh-weighed-requires c =
    let z = c.requires in
    let b = c.loop-hopeless.invariant.2 z.0.0 z.0.1 z.0.2 z.0.3 in
    ((z.0.0, z.0.1, weighable_then z.0.2 _ b.0, b.1), λ f. absurd (f refl))

pub loop-hopeless-smaller-then-hopeless : goal.loop-hopeless-smaller-then-hopeless
loop-hopeless-smaller-then-hopeless c = rw (c.if-hopeless.true, c.loop-hopeless-test.true) (omega arith)

pub loop-hopeless-preserved-then-hopeless : goal.loop-hopeless-preserved-then-hopeless
loop-hopeless-preserved-then-hopeless c =
    let v = c.loop-hopeless.invariant in
    let m = v.1 in (
      c.weigh-weighed.auto.list ∙ v.0,
      record { direction = m.direction; alpha = m.alpha; idle = m.idle; calls = m.calls },
      λ t l w k.
          let b = v.2 t l w k in
          let a = c.weigh-weighed.ensures.0 t l (weighable_then w _ b.0) b.1 in
          (bounded_then _ c.weigh-weighed.result.bounded b.0 a.0, a.1),
    )

pub after-descent-requires : goal.after-descent-requires
after-descent-requires c =
    let z = c.requires in
    let l = z.0.1.rules in (
      c.loop-hopeless.invariant.1,
      some _ c.if-descent-ne0.true,
      z.1,
      omega (arith, l.processors, l.sound.processors.most),
      below_more _ 24 _ l.sound.tasks.most (open_below z.0.2.fits),
      c.weigh-weighed.ensures.1,
      omega (arith, c.weigh-weighed.ensures.2),
    )

pub loop-hopeless-smaller : goal.loop-hopeless-smaller
loop-hopeless-smaller c =
    let l = c.requires.0.1.rules in
    let w = after_later _ _ _ _ c.loop-hopeless.invariant.1 (some _ c.if-descent-ne0.true) (omega (arith, l.processors, l.sound.processors.most)) (omega (arith, c.weigh-weighed.ensures.2)) c.after-descent.ensures in
    rw (c.if-hopeless.false, c.loop-hopeless-test.true) (omega (arith, w.fewer))

pub loop-hopeless-preserved : goal.loop-hopeless-preserved
loop-hopeless-preserved c =
    let l = c.requires.0.1.rules in
    let v = c.loop-hopeless.invariant in
    let later = after_later _ _ _ _ v.1 (some _ c.if-descent-ne0.true) (omega (arith, l.processors, l.sound.processors.most)) (omega (arith, c.weigh-weighed.ensures.2)) c.after-descent.ensures in (
      c.weigh-weighed.auto.list ∙ v.0,
      later.moves,
      λ t l w k.
          let b = v.2 t l w k in
          let a = c.weigh-weighed.ensures.0 t l (weighable_then w _ b.0) b.1 in
          (bounded_then _ c.weigh-weighed.result.bounded b.0 a.0, a.1),
    )

pub returns : goal.returns
returns c = c.loop-hopeless.invariant.2
