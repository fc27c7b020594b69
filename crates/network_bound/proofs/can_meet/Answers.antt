-- `can_meet` meets its contract. Assumes nothing.
use mathlib.Core.Path.{◌≡◌, refl, sym, ◌∙◌}
use mathlib.Core.Logic.{⊎_elim}
use mathlib.Core.Bool.{Bool, true, false, ◌&&◌}
use Prim.Native.Nat.{ℕ, ◌-◌}
use lib.Bits.{bit_or}
use lib.ListN.{get_or}
use Rattle.finite.proofs.Search.{search_start, search_next, some_found, some_missed}
use Rattle.mask.specs.Mask.{has}
use Rattle.mask.proofs.Laws.{has_or}
use Rattle.knapsack.specs.Knapsack.{joined}
use Rattle.network_bound.proofs.can_meet.Goals as goal

-- the tasks on a processor and its candidates, in one mask
module _ (on set from to : ℕ) where
  in_one : (k : ℕ) {b : Bool} → b ≡ has (bit_or set on) k → joined on set k ≡ b
  in_one k e = sym (has_or set on k) ∙ sym e

  has_both : {a b : Bool} → a ≡ has (bit_or set on) from → a ≡ true → b ≡ has (bit_or set on) to → b ≡ true → (joined on set from && joined on set to) ≡ true
  has_both e f g h = both (joined on set from) (joined on set to) (in_one from e ∙ f) (in_one to g ∙ h)
    where
      both : (a b : Bool) → a ≡ true → b ≡ true → (a && b) ≡ true
      both a b e f = rw (e, f) refl

  not_second : {b : Bool} → b ≡ has (bit_or set on) to → b ≡ false → (joined on set from && joined on set to) ≡ false
  not_second e f = go (joined on set from) (joined on set to) (in_one to e ∙ f)
    where
      go : (a b : Bool) → b ≡ false → (a && b) ≡ false
      go true b e = e
      go false b e = refl

  not_first : {a : Bool} → a ≡ has (bit_or set on) from → a ≡ false → (joined on set from && joined on set to) ≡ false
  not_first e f = go (joined on set from) (joined on set to) (in_one from e ∙ f)
    where
      go : (a b : Bool) → a ≡ false → (a && b) ≡ false
      go a b e = rw e refl

pub loop-p-init : goal.loop-p-init
loop-p-init c = search_start

pub returns-then-has-2 : goal.returns-then-has-2
returns-then-has-2 c =
    let a = c.args in
    sym (some_found c.loop-p.invariant c.loop-p-test.true
    (has_both (get_or a.s.on c.loop-p.p 0) (get_or a.sets c.loop-p.p 0) a.from a.to c.has.ensures c.if-has.true c.has-then-has.ensures c.if-has-2.true))

pub loop-p-preserved : goal.loop-p-preserved
loop-p-preserved c =
    let a = c.args in
    ⊎_elim
    (λ w. search_next c.loop-p.invariant c.loop-p-test.true (not_second (get_or a.s.on c.loop-p.p 0) (get_or a.sets c.loop-p.p 0) a.from a.to w.has-then-has.ensures w.if-has-2.false))
    (λ w. search_next c.loop-p.invariant c.loop-p-test.true (not_first (get_or a.s.on c.loop-p.p 0) (get_or a.sets c.loop-p.p 0) a.from a.to c.has.ensures w.if-has.false))
    c.if-has.branch-raw

pub returns : goal.returns
returns c = sym (some_missed c.loop-p.invariant c.loop-p-test.false)
