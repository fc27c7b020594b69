-- Two rooms, alike to a set of tasks. Assumes nothing.
use mathlib.Core.Path.{◌≡◌, sym}
use mathlib.Core.Logic.{◌≢◌, inl, inr}
use mathlib.Core.Bool.{Bool, true, false}
use Prim.Native.Nat.{ℕ, min}
use native.Mathlib.Omega.{arith}
use borrow.Author.Tests.{leb-true, leb-false}
use lib.Dec.{leb}
use Rattle.schedule.specs.Arrays.{Says}
use Rattle.symmetry.specs.Symmetry.{Alike}

-- where they differ, the lesser decides
pub rooms_alike : (r : Bool) (all : ℕ) {a b least : ℕ} → a ≢ b → least ≡ min a b → r ≡ leb all least → Says r (Alike all a b)
rooms_alike true all {a} {b} {least} d e f = inr (omega (arith, leb-true all least (sym f)), omega (arith, leb-true all least (sym f)))
rooms_alike false all {a} {b} {least} d e f = go
  where
    go : Alike all a b → ⊥
    go (inl q) = d q
    go (inr (x, y)) = omega (arith, leb-false all least (sym f))
