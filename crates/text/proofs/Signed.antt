-- A number of 32 bits with a sign, as the code reads it, and how it is written. Assumes nothing.
use mathlib.Core.Path.{◌≡◌, refl, sym, ap, subst, ◌∙◌}
use mathlib.Core.Bool.{Bool, true, false, cond}
use mathlib.Core.List.{List, ◌++◌}
use Prim.Native.Nat.{ℕ, zero, suc, ◌+◌, ◌-◌, ◌≤◌, ◌<◌}
use native.Mathlib.Nat.{zero-add}
use native.Mathlib.Omega.{arith}
use borrow.Author.Tests.{ltb-true}
use lib.Dec.{T, ltb}
use lib.IntN.{ℤ, pos, negsuc, nat_abs, ◌-ℤ◌}
use lib.ListN.{length}
use lib.Signed.{lt_z, non_neg}
use mir.Syntax.{w32, w64}
use mir.Val.{Fits, SFits, to_z, of_z}
use mir.ValLaws.{to_z-of_z}
use Rattle.wire.specs.Wire.{Put}
use Rattle.text.specs.Text.{ascii, decimal, signed}
use Rattle.text.proofs.Laws.{digits_few}

-- x by its bits; the same in 64 bits; and a minus that
abbrev read : ℤ → ℤ
read x = to_z w32 (of_z w32 x)

abbrev wide : ℤ → ℤ
wide x = to_z w64 (of_z w64 (read x))

abbrev minus : ℕ → ℤ → ℤ
minus a x = to_z w64 (of_z w64 (pos a -ℤ wide x))

-- a minus x fits in 64 bits
minus_fits : (a : ℕ) (x : ℤ) → a < 2147483648 → SFits w32 x → SFits w64 (pos a -ℤ x)
minus_fits a (pos zero) l h = record { sfits = omega arith }
minus_fits a (pos (suc n)) l h = go (ltb a (suc n))
  where
    go : (b : Bool) → SFits w64 (cond b (negsuc (suc n - suc a)) (pos (a - suc n)))
    go true = record { sfits = omega (arith, h.sfits) }
    go false = record { sfits = omega arith }
minus_fits a (negsuc n) l h = record { sfits = omega (arith, h.sfits) }

-- x below zero: a minus x fits without a sign, and 0 minus x stands behind the sign
below_fits : (a : ℕ) (x : ℤ) → a < 2147483648 → SFits w32 x → lt_z x (pos 0) ≡ true → T (non_neg (pos a -ℤ x)) × Fits w64 (nat_abs (pos a -ℤ x))
below_fits a (pos n) l h b = absurd (omega (arith, ltb-true n 0 b))
below_fits a (negsuc n) l h b = (tt, record { fits = omega (arith, h.sfits) })

below_written : (x : ℤ) → lt_z x (pos 0) ≡ true → ascii "-" ++ decimal (nat_abs (pos 0 -ℤ x)) ≡ signed x
below_written (pos n) b = absurd (omega (arith, ltb-true n 0 b))
below_written (negsuc n) b = ap (λ (m : ℕ). ascii "-" ++ decimal m) (zero-add (suc n))

-- x from zero on: it fits without a sign, and is written as it is
above_fits : (x : ℤ) → SFits w32 x → lt_z x (pos 0) ≡ false → T (non_neg x) × Fits w64 (nat_abs x)
above_fits (pos n) h b = (tt, record { fits = omega (arith, h.sfits) })
above_fits (negsuc n) h b = absurd (subst T b tt)

above_written : (x : ℤ) → lt_z x (pos 0) ≡ false → decimal (nat_abs x) ≡ signed x
above_written (pos n) b = refl
above_written (negsuc n) b = absurd (subst T b tt)

-- the same of what the code reads
module _ (x : ℤ) (h : SFits w32 x) where
  read_is : read x ≡ x
  read_is = to_z-of_z w32 x h

  pub read_fits : SFits w64 (read x)
  read_fits = subst (SFits w64) (sym read_is) (record { sfits = omega (arith, h.sfits) })

  wide_is : wide x ≡ x
  wide_is = to_z-of_z w64 (read x) read_fits ∙ read_is

  pub wide_minus_fits : {a : ℕ} → a < 2147483648 → SFits w64 (pos a -ℤ wide x)
  wide_minus_fits {a} l = subst (λ (z : ℤ). SFits w64 (pos a -ℤ z)) (sym wide_is) (minus_fits a x l h)

  minus_is : (a : ℕ) → a < 2147483648 → minus a x ≡ pos a -ℤ x
  minus_is a l = to_z-of_z w64 (pos a -ℤ wide x) (wide_minus_fits l) ∙ ap (λ (z : ℤ). pos a -ℤ z) wide_is

  pub minus_below_fits : {a : ℕ} → a < 2147483648 → lt_z (read x) (pos 0) ≡ true → T (non_neg (minus a x)) × Fits w64 (nat_abs (minus a x))
  minus_below_fits {a} l b = rw (minus_is a l) (below_fits a x l h (rw read_is at b))

  pub minus_below_written : lt_z (read x) (pos 0) ≡ true → ascii "-" ++ decimal (nat_abs (minus 0 x)) ≡ signed x
  minus_below_written b = rw (minus_is 0 (omega arith)) (below_written x (rw read_is at b))

  pub read_above_fits : lt_z (read x) (pos 0) ≡ false → T (non_neg (read x)) × Fits w64 (nat_abs (read x))
  read_above_fits b = rw read_is (above_fits x h (rw read_is at b))

  pub read_above_written : lt_z (read x) (pos 0) ≡ false → decimal (nat_abs (read x)) ≡ signed x
  read_above_written b = rw read_is (above_written x (rw read_is at b))

-- 20 digits and the sign are enough
signed_few : (x : ℤ) → length (signed x) ≤ 21
signed_few (pos n) = omega (arith, digits_few 20 n)
signed_few (negsuc n) = omega (arith, digits_few 20 (suc n))

pub put_signed_few : (x : ℤ) {old new : List ℕ} {at end : ℕ} → Put old at (signed x) new end → end ≤ at + 21
put_signed_few x p = omega (arith, p.ends, signed_few x)
