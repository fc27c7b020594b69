-- The thousandth that is printed is the nearest one, the even one at exactly half way, and there is no other. Assumes nothing.
use mathlib.Core.Path.{◌≡◌, refl}
use mathlib.Core.Bool.{Bool, true, false}
use Prim.Native.Nat.{ℕ, zero, suc, ◌+◌, ◌*◌, ◌/◌, ◌%◌, ◌≤◌, ◌<◌}
use native.Mathlib.Nat.{div-add-mod', mod-lt, lt_of_not-le, mul-le-mul_right}
use native.Mathlib.Omega.{arith}
use borrow.Author.Tests.{ltb-true, ltb-false, lt-ltb, le-ltb}
use lib.Dec.{ltb}
use Rattle.load.specs.Nearest.{nearer, nearest, Nearest}

-- ---- it is the nearest one

-- low, the next one, or the even one of the two, for an exact value of low + rest / h
module _ (load h low rest : ℕ) (l : rest < h) (e : low * h + rest ≡ 1000 * load) where
  lower : 2 * rest < h → Nearest load h low
  lower b = record { near = omega arith; even = λ half. omega arith }

  upper : h < 2 * rest → Nearest load h (low + 1)
  upper b = record { near = omega arith; even = λ half. omega arith }

  half_way : 2 * rest ≡ h → (odd : ℕ) → low % 2 ≡ odd → Nearest load h (low + odd)
  half_way b zero o = record { near = omega arith; even = λ half. omega arith }
  half_way b (suc zero) o = record { near = omega arith; even = λ half. omega arith }
  half_way b (suc (suc odd)) o = absurd (omega arith)

  nearer_is : Nearest load h (nearer low rest h)
  nearer_is = below (ltb (2 * rest) h) refl
    where
      not_below : (b : Bool) → ltb h (2 * rest) ≡ b → ltb (2 * rest) h ≡ false → Nearest load h (nearer low rest h)
      not_below true b a = rw (a, b) (upper (ltb-true _ _ b))
      not_below false b a = rw (a, b) (half_way (omega (arith, ltb-false h (2 * rest) b, ltb-false (2 * rest) h a)) (low % 2) refl)

      below : (b : Bool) → ltb (2 * rest) h ≡ b → Nearest load h (nearer low rest h)
      below true b = rw b (lower (ltb-true _ _ b))
      below false b = not_below (ltb h (2 * rest)) refl b

-- 02: the nearest thousandth, an exact half to the even one
pub nearest_is : (load h : ℕ) → 1 ≤ h → Nearest load h (nearest load h)
unfolding nearest
nearest_is load h pos = nearer_is load h (1000 * load / h) (1000 * load % h) (mod-lt (1000 * load) pos) (div-add-mod' (1000 * load) h)

-- ---- there is no other

-- a larger one would be the next, and both at exactly half way, where only one of them is even
none_larger : (load h y z : ℕ) → 1 ≤ h → Nearest load h y → Nearest load h z → z ≤ y
none_larger load h y z pos a b = omega (arith, lt_of_not-le {n = suc y} {m = z} go)
  where
    go : y < z → ⊥
    go l =
        let apart = mul-le-mul_right h l in
        let both_even : suc (suc y) ≤ z = omega (arith, a.even (omega arith), b.even (omega arith)) in
        omega (arith, mul-le-mul_right h both_even)

pub nearest_only : (load h y : ℕ) → 1 ≤ h → Nearest load h y → y ≡ nearest load h
nearest_only load h y pos a =
    let b = nearest_is load h pos in
    omega (arith, none_larger load h y (nearest load h) pos a b, none_larger load h (nearest load h) y pos b a)

-- a load that keeps a limit is printed as no more than the limit
pub nearest_kept : (load limit h : ℕ) → 1 ≤ h → 1000 * load ≤ limit * h → nearest load h ≤ limit
nearest_kept load limit h pos l = omega (arith, lt_of_not-le {n = suc limit} {m = nearest load h} (λ m. omega (arith, (nearest_is load h pos).near, mul-le-mul_right h m)))

-- ---- what the definition computes, by where the rest stands to half of h

module _ (load h : ℕ) where
  pub below_half : 2 * (1000 * load % h) < h → 1000 * load / h ≡ nearest load h
  unfolding nearest
  below_half b = rw (nearest, lt-ltb _ _ b)

  pub above_half : h < 2 * (1000 * load % h) → 1000 * load / h + 1 ≡ nearest load h
  unfolding nearest
  above_half b = rw (nearest, le-ltb (2 * (1000 * load % h)) h (omega arith), lt-ltb _ _ b)

  pub at_half : 2 * (1000 * load % h) ≡ h → 1000 * load / h + 1000 * load / h % 2 ≡ nearest load h
  unfolding nearest
  at_half b = rw (nearest, le-ltb (2 * (1000 * load % h)) h (omega arith), le-ltb h (2 * (1000 * load % h)) (omega arith))
