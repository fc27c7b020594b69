-- One word after the other becomes 0.
use mathlib.Core.Path.{◌≡◌, refl}
use mathlib.Core.List.{List}
use Prim.Native.Nat.{ℕ, ◌+◌, ◌-◌}
use native.Mathlib.Numerals.{add-one}
use native.Mathlib.Omega.{arith}
use borrow.Author.Rules.{rules}
use lib.ListN.{set}
use Rattle.nogoods.specs.Nogoods.{cleared}
use Rattle.nogoods.proofs.open_table.Goals as goal

cleared_none : (old : List ℕ) → old ≡ cleared old 0
unfolding cleared
cleared_none old = refl

cleared_next : {lateness : List ℕ} (old : List ℕ) (n : ℕ) → lateness ≡ cleared old n → set lateness (65536 + n) 0 ≡ cleared old (n + 1)
unfolding cleared
cleared_next old n e = rw (add-one, e) refl

cleared_all : {lateness : List ℕ} (old : List ℕ) {n m : ℕ} → lateness ≡ cleared old n → n ≡ m → set lateness 81920 1 ≡ set (cleared old m) 81920 1
cleared_all old e q = rw (e, q) refl

pub loop-n-init : goal.loop-n-init
loop-n-init c = (omega arith, cleared_none _)

pub loop-n-preserved : goal.loop-n-preserved
loop-n-preserved c = (search rules, cleared_next _ _ c.loop-n.invariant.1)

pub returns : goal.returns
returns c = cleared_all _ c.loop-n.invariant.1 (search rules)
