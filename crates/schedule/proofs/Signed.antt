-- Differences of small numbers, and the margin by them. Assumes nothing.
use mathlib.Core.Path.{◌≡◌, refl}
use mathlib.Core.Bool.{Bool, true, false, cond}
use Prim.Native.Nat.{ℕ, zero, suc, ◌-◌, ◌≤◌, ◌<◌}
use native.Mathlib.Omega.{arith}
use native.Mathlib.Decide.{dec_le}
use borrow.Author.Tests.{le-ltb, le-leb, lt-leb}
use lib.Dec.{ltb}
use lib.IntN.{ℤ, pos, negsuc, ◌-ℤ◌}
use mir.Syntax.{w32}
use mir.Val.{SFits}
use Rattle.std.specs.Prelude.{Some, None}
use Rattle.schedule.specs.Response.{Least, up_to}
use Rattle.schedule.specs.Margin.{margin_by, MarginIs, known, beyond}

-- a difference of numbers up to 1,000,000 fits in 32 bits
pub difference_fits : (x y : ℕ) → x ≤ 1000000 → y ≤ 1000000 → SFits w32 (pos x -ℤ pos y)
difference_fits x zero a b = record { sfits = omega arith }
difference_fits x (suc m) a b = go (ltb x (suc m))
  where
    go : (t : Bool) → SFits w32 (cond t (negsuc (suc m - suc x)) (pos (x - suc m)))
    go true = record { sfits = omega arith }
    go false = record { sfits = omega arith }

-- the mark, or the difference, by whether there is a worst response
pub margin_beyond : (d : ℕ) {w : ℕ} → w ≡ 0 → None ≡ margin_by d w
margin_beyond d {w = zero} e = refl
margin_beyond d {w = suc w} e = absurd (omega arith)

pub margin_known : (d : ℕ) {w : ℕ} {m : ℤ} → (w ≡ 0 → ⊥) → m ≡ pos d -ℤ pos w → Some m ≡ margin_by d w
margin_known d {w = zero} n e = absurd (n refl)
margin_known d {w = suc w} n e = rw e refl

-- what the margin says of the least solution
pub margin_is : {f : ℕ → ℕ} (d : ℕ) {t w : ℕ} → Least f t w → MarginIs f d t (margin_by d w)
margin_is d {w = zero} l = beyond l
margin_is d {w = suc w} l = known (suc w) (omega arith) l

-- a response within the deadline leaves a margin that is known and not below zero
pub margin_in_time : (d w : ℕ) → 0 < up_to d w → (x : ℕ) × (margin_by d w ≡ Some (pos x))
margin_in_time d zero p = absurd (omega (arith, rw (le-leb 0 d (omega arith)) at p))
margin_in_time d (suc w) p = go (dec_le (suc w) d)
  where
    go : Dec (suc w ≤ d) → (x : ℕ) × (margin_by d (suc w) ≡ Some (pos x))
    go (yes l) = (d - suc w, rw (le-ltb d (suc w) (omega arith)) refl)
    go (no l) = absurd (omega (arith, rw (lt-leb (suc w) d (omega arith)) at p))
