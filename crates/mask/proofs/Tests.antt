-- Laws of tests. Assumes nothing.
use mathlib.Core.Path.{◌≡◌, refl}
use mathlib.Core.Bool.{Bool, true, false, ◌&&◌}
use Prim.Native.Nat.{ℕ}
use native.Mathlib.Omega.{arith}
use lib.Dec.{T, ltb, ltb→lt, lt→ltb}
use Rattle.finite.specs.Finite.{some_below, first_below}
use Rattle.finite.proofs.Some.{some_intro, some_elim}
use Rattle.finite.proofs.Search.{FirstBelow, first_below_lem, lowest, nowhere}

-- two tests that pass together
pub same_test : (a b : Bool) → (T a → T b) → (T b → T a) → a ≡ b
same_test true true f g = refl
same_test true false f g = absurd (f tt)
same_test false true f g = absurd (g tt)
same_test false false f g = refl

pub and_both : (a b : Bool) → T a → T b → T (a && b)
and_both true b t u = u
and_both false b t u = absurd t

pub and_left : (a b : Bool) → T (a && b) → T a
and_left true b t = tt
and_left false b t = absurd t

pub and_right : (a b : Bool) → T (a && b) → T b
and_right true b t = t
and_right false b t = absurd t

-- the first number that passes is below n exactly where some number does
pub first_some : (n : ℕ) (p : ℕ → Bool) → ltb (first_below n p) n ≡ some_below n p
first_some n p = go (first_below_lem n p)
  where
    go : FirstBelow n p (first_below n p) → ltb (first_below n p) n ≡ some_below n p
    go (lowest l t h) = same_test _ _ (λ u. some_intro n p _ l t) (λ u. lt→ltb _ _ l)
    go (nowhere e h) =
        same_test _ _ (λ u. absurd (omega (arith, ltb→lt (first_below n p) n u))) (λ u. let r = some_elim n p u in absurd (h r.0 r.1 r.2))
