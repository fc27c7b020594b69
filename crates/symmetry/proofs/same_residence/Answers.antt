-- Of the tasks looked at, each may reside on both or on neither. Assumes nothing.
use borrow.Author.Rules.{rules}
use mathlib.Core.Path.{◌≡◌, refl, sym, ◌∙◌}
use mathlib.Core.Bool.{Bool, true, false, not, beq, true≢false, false≢true}
use native.Mathlib.Omega.{arith}
use Rattle.mask.proofs.Visit.{visit_start, visit_end, visit_member, visit_low, visit_next}
use Rattle.symmetry.proofs.same_residence.Goals as goal

-- two tests, compared
differ : (a b : Bool) → not (beq a b) ≡ true → a ≡ b → ⊥
differ true true h e = false≢true h
differ true false h e = true≢false e
differ false true h e = false≢true e
differ false false h e = false≢true h

agree : (a b : Bool) → not (beq a b) ≡ false → a ≡ b
agree true true h = refl
agree true false h = absurd (true≢false h)
agree false true h = absurd (true≢false h)
agree false false h = refl

pub loop-k-init : goal.loop-k-init
loop-k-init c = rw (c.into_iter-k-iterator.ensures.into_iter_gives, c.members-k-items.ensures) (visit_start (search rules))

pub offset_bounds-residence-k : goal.offset_bounds-residence-k
offset_bounds-residence-k c = omega (arith, visit_low c.loop-k.invariant c.in-Some.ensures.steps 24 c.requires.0)

pub bounds-residence-k : goal.bounds-residence-k
bounds-residence-k c = visit_low c.loop-k.invariant c.in-Some.ensures.steps 24 c.requires.0

pub offset_bounds-residence-k-in-loop-k : goal.offset_bounds-residence-k-in-loop-k
offset_bounds-residence-k-in-loop-k c = omega (arith, visit_low c.loop-k.invariant c.in-Some.ensures.steps 24 c.requires.0)

pub bounds-residence-k-in-loop-k : goal.bounds-residence-k-in-loop-k
bounds-residence-k-in-loop-k c = visit_low c.loop-k.invariant c.in-Some.ensures.steps 24 c.requires.0

pub returns-then-has : goal.returns-then-has
returns-then-has c =
    λ same. differ _ _ c.if-has.true (c.has.ensures ∙ same _ (visit_member c.loop-k.invariant c.in-Some.ensures.steps) ∙ sym c.has-in-loop-k.ensures)

pub loop-k-preserved : goal.loop-k-preserved
loop-k-preserved c = visit_next c.loop-k.invariant c.in-Some.ensures.steps (sym c.has.ensures ∙ agree _ _ c.if-has.false ∙ c.has-in-loop-k.ensures)

pub returns : goal.returns
returns c = visit_end c.loop-k.invariant c.in-None.ensures.steps.0
