-- The processors are looked at one after the other.
use mathlib.Core.Path.{◌≡◌, refl, sym, ap, ◌∙◌}
use mathlib.Core.Logic.{⊎_elim}
use mathlib.Core.Bool.{Bool}
use Prim.Native.Nat.{ℕ, ◌-◌}
use native.Mathlib.Numerals.{add-one}
use native.Mathlib.Omega.{arith}
use borrow.Author.Rules.{rules}
use Rattle.finite.specs.Finite.{sum_to}
use Rattle.mask.specs.Mask.{insert_of}
use Rattle.mask.proofs.Laws.{mask_insert, mask_skip}
use Rattle.partial.proofs.MaskSets.{meets_if, meets_not}
use Rattle.subsets.specs.Subsets.{takes, processors_for}
use Rattle.subsets.proofs.processors_for.Goals as goal

pub returns-then-rows-k-ne0 : goal.returns-then-rows-k-ne0
unfolding processors_for sum_to
returns-then-rows-k-ne0 c = rw (meets_if _ _ c.if-rows-k-ne0.true) refl

pub loop-p-init : goal.loop-p-init
unfolding processors_for sum_to
loop-p-init c = (omega arith, refl)

pub takes-requires : goal.takes-requires
unfolding processors_for sum_to
takes-requires c = search rules

pub insert-found-requires : goal.insert-found-requires
unfolding processors_for sum_to
insert-found-requires c = search rules

pub loop-p-preserved : goal.loop-p-preserved
unfolding processors_for sum_to
loop-p-preserved c =
    let v = c.loop-p.invariant in
    let a = c.args in
    let test : ℕ → Bool = takes a.rows.now a.s a.subset a.k in (
      omega arith,
      rw add-one (⊎_elim
          (λ y. y.found-is ∙ y.insert-found.ensures ∙ ap (λ (z : ℕ). insert_of z c.loop-p.p) v.1 ∙ mask_insert c.loop-p.p test (sym c.takes.ensures ∙ y.if-takes.true))
          (λ y. y.found-is ∙ v.1 ∙ mask_skip c.loop-p.p test (sym c.takes.ensures ∙ y.if-takes.false)) c.if-takes.branch-raw),
    )

pub returns : goal.returns
unfolding processors_for sum_to
returns c =
    let all : c.loop-p.p ≡ c.args.m = omega (arith, c.loop-p.invariant.0, c.loop-p-test.false) in
    rw (meets_not _ _ c.if-rows-k-ne0.false) (rw (← all) c.loop-p.invariant.1)
