-- The processors are looked at one after the other.
use mathlib.Core.Path.{◌≡◌, refl, sym, ◌∙◌}
use mathlib.Core.Logic.{⊎_elim}
use mathlib.Core.List.{List}
use Prim.Native.Nat.{ℕ}
use native.Mathlib.Omega.{arith}
use lib.Bits.{bit_and}
use lib.ListN.{get_or}
use Rattle.mask.specs.Mask.{has, Subset}
use Rattle.mask.proofs.Tests.{and_right}
use Rattle.mask.proofs.Laws.{has_and}
use Rattle.table.specs.Table.{column}
use Rattle.table.proofs.FilledUp.{column_start, column_next}
use Rattle.narrowing.specs.Narrowing.{may_of}
use Rattle.narrowing.proofs.narrow_all.Goals as goal

open_part : (a left : ℕ) → Subset (bit_and a left) left
open_part a left k u = and_right (has a k) (has left k) (rw (has_and a left k) at u)

ended : (f : ℕ → ℕ) {n m : ℕ} {out : List ℕ} → out ≡ column 8 n f → n ≡ m → out ≡ column 8 m f
ended f w e = rw e at w

pub loop-p-init : goal.loop-p-init
unfolding may_of
loop-p-init c = (omega arith, column_start 8 _, c.requires.2)

pub offset_bounds-sets-p : goal.offset_bounds-sets-p
unfolding may_of
offset_bounds-sets-p c = record { fits = omega (arith, c.loop-p-test.true, c.requires.0.1.rules.processors, c.requires.0.1.rules.sound.processors.most) }

pub bounds-sets-p : goal.bounds-sets-p
unfolding may_of
bounds-sets-p c = omega (arith, c.loop-p-test.true, c.requires.0.1.rules.processors, c.requires.0.1.rules.sound.processors.most)

pub has-requires : goal.has-requires
unfolding may_of
has-requires c = omega (arith, c.loop-p-test.true, c.requires.0.1.rules.processors, c.requires.0.1.rules.sound.processors.most)

pub site-site-requires : goal.site-site-requires
unfolding may_of
site-site-requires c = omega (arith, c.loop-p-test.true, c.requires.0.1.rules.processors, c.requires.0.1.rules.sound.processors.most)

pub narrow-set-requires : goal.narrow-set-requires
unfolding may_of
narrow-set-requires c =
    let a = c.args in
    let z = c.requires in
    ((z.0.0, _, z.0.1, z.0.2, c.site-site.ensures), rw c.site-site.ensures (open_part (get_or a.sets c.loop-p.p 0) a.s.left), c.loop-p-test.true, z.1, c.loop-p.invariant.2)

pub offset_bounds-may-p : goal.offset_bounds-may-p
unfolding may_of
offset_bounds-may-p c = record { fits = omega (arith, c.loop-p-test.true, c.requires.0.1.rules.processors, c.requires.0.1.rules.sound.processors.most) }

pub bounds-may-p : goal.bounds-may-p
unfolding may_of
bounds-may-p c = omega (arith, c.loop-p-test.true, c.requires.0.1.rules.processors, c.requires.0.1.rules.sound.processors.most)

pub loop-p-smaller : goal.loop-p-smaller
unfolding may_of
loop-p-smaller c = omega (arith, c.loop-p-test.true)

pub loop-p-preserved : goal.loop-p-preserved
unfolding may_of
loop-p-preserved c =
    let h = c.has in (
      omega (arith, c.loop-p-test.true),
      column_next _ c.loop-p.invariant.1 (omega (arith, c.loop-p-test.true, c.requires.0.1.rules.processors, c.requires.0.1.rules.sound.processors.most)) (⊎_elim (λ y. y.set-is ∙ (rw y.site-site.ensures at y.narrow-set.ensures.0) ∙ rw (sym h.ensures ∙ y.if-has.true) refl) (λ y. y.set-is ∙ rw (sym h.ensures ∙ y.if-has.false) refl) c.if-has.branch-raw),
      ⊎_elim (λ y. rw y.lateness-is y.narrow-set.ensures.1) (λ y. rw y.lateness-is c.loop-p.invariant.2) c.if-has.branch-raw,
    )

pub returns : goal.returns
unfolding may_of
returns c =
    (ended _ c.loop-p.invariant.1 (omega (arith, c.loop-p-test.false, c.loop-p.invariant.0)), c.loop-p.invariant.2)
