-- `must_cross` meets its contract. Assumes nothing.
use mathlib.Core.Path.{◌≡◌, refl, sym, ◌∙◌}
use mathlib.Core.Bool.{Bool, true, false, not, ◌&&◌, ◌||◌}
use Rattle.network_bound.proofs.must_cross.Goals as goal

-- by the first test, by the second, by the last
none : (a b : Bool) → a ≡ false → false ≡ (a && b)
none a b e = rw e refl

first : (a x y : Bool) → a ≡ true → x ≡ true → true ≡ (a && (x || y))
first a x y e f = rw (e, f) refl

last : (a x y r : Bool) → a ≡ true → x ≡ false → r ≡ y → not r ≡ (a && (x || not y))
last a x y r e f g = rw (e, f, g) refl

pub returns-then-not-has_either : goal.returns-then-not-has_either
returns-then-not-has_either c = none _ _ (sym c.has_either.ensures ∙ c.if-not-has_either.true)

pub returns-then-has : goal.returns-then-has
returns-then-has c =
    first _ _ _ (sym c.has_either.ensures ∙ c.if-not-has_either.false) (sym c.has.ensures ∙ c.if-has.true)

pub returns : goal.returns
returns c =
    last _ _ _ _ (sym c.has_either.ensures ∙ c.if-not-has_either.false) (sym c.has.ensures ∙ c.if-has.false) c.can_meet.ensures
