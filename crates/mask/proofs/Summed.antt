-- A loop that sums over the members of a mask: its invariant and its laws, for any width. Assumes nothing.
use mathlib.Core.Path.{◌≡◌}
use Prim.Native.Nat.{ℕ, ◌+◌, ◌^◌, ◌≤◌, ◌<◌}
use native.Mathlib.Omega.{arith}
use lib.Dec.{T}
use Rattle.mask.specs.Mask.{below, remove_of, sum_over}
use Rattle.mask.proofs.Laws.{sum_none, sum_remove}
use Rattle.mask.proofs.Visit.{VisitIn, NextIn, visit_start, visit_left, visit_low, visit_next}

-- what is summed and the terms of those left make the whole, among any n numbers that hold the set
pub record SummedIn (w set left : ℕ) (f : ℕ → ℕ) (sum : ℕ) : Type 0 where
  pub visit : VisitIn w set left (λ k. Unit {0})
  pub value : (n : ℕ) → T (below n set) → sum + sum_over n left f ≡ sum_over n set f

-- the same of 32 bits
abbrev pub Summed : ℕ → ℕ → (ℕ → ℕ) → ℕ → Type 0
Summed = SummedIn 32

pub summed_start : {w set : ℕ} {f : ℕ → ℕ} → set < 2 ^ w → SummedIn w set set f 0
summed_start h = record { visit = visit_start h; value = λ n b. omega arith }

module _ {w set left : ℕ} {f : ℕ → ℕ} {sum : ℕ} (v : SummedIn w set left f sum) where
  pub summed_end : left ≡ 0 → (n : ℕ) → T (below n set) → sum ≡ sum_over n set f
  summed_end e n b = omega (arith, rw e at (v.value n b), sum_none n f)

  module _ {j x rest : ℕ} (s : NextIn w left j rest) (i : x ≡ f j) where
    one_less : (n : ℕ) → T (below n set) → sum_over n left f ≡ sum_over n (remove_of left j) f + x
    one_less n b = rw i (sum_remove n left f j (visit_low v.visit s n b) (visit_left v.visit s))

    -- with the next term the sum is within the whole
    pub summed_fits : (n : ℕ) → T (below n set) → sum + x ≤ sum_over n set f
    summed_fits n b = omega (arith, v.value n b, one_less n b)

    pub summed_next : SummedIn w set rest f (sum + x)
    summed_next = record { visit = visit_next v.visit s tt; value = λ n b. rw s.2 (omega (arith, v.value n b, one_less n b)) }
