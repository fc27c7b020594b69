-- The loop that takes what each task of a set needs out of a room: its invariant and its laws. Assumes nothing.
use mathlib.Core.Path.{◌≡◌, sym}
use mathlib.Core.Bool.{true, false}
use mathlib.Core.List.{List}
use Prim.Native.Nat.{ℕ, ◌+◌, ◌-◌, ◌^◌, ◌≤◌, ◌<◌}
use native.Mathlib.Omega.{arith}
use borrow.Author.Tests.{le-leb, lt-leb}
use lib.Dec.{T, leb}
use lib.ListN.{get_or}
use Rattle.mask.specs.Mask.{below, ComesNext, sum_over}
use Rattle.mask.proofs.Summed.{Summed, summed_start, summed_fits, summed_next, summed_end}

-- what was taken is the sum so far
pub record Taking (column : List ℕ) (set room free rest : ℕ) : Type 0 where
  pub taken : Summed set rest (λ k. get_or column k 0) (room - free)
  pub part : free ≤ room

pub taking_start : {column : List ℕ} {set room : ℕ} → set < 2 ^ 32 → Taking column set room room set
taking_start {room = room} h = let e : room - room ≡ 0 = omega arith in record { taken = rw e (summed_start h); part = omega arith }

module _ {column : List ℕ} {set room free rest : ℕ} (w : Taking column set room free rest) where
  -- nothing is left to take
  pub taking_end : rest ≡ 0 → (n : ℕ) → T (below n set) → true ≡ leb (sum_over n set (λ k. get_or column k 0)) room
  taking_end e n b = sym (le-leb _ room (omega (arith, summed_end w.taken e n b)))

  module _ {k x after : ℕ} (s : ComesNext rest k after) (f : x ≡ get_or column k 0) where
    -- the next task needs more than is left
    pub taking_over : free < x → (n : ℕ) → T (below n set) → false ≡ leb (sum_over n set (λ j. get_or column j 0)) room
    taking_over l n b = sym (lt-leb _ room (omega (arith, summed_fits w.taken s f n b, w.part)))

    pub taking_next : x ≤ free → Taking column set room (free - x) after
    taking_next l =
        let more : room - (free - x) ≡ room - free + x = omega (arith, w.part) in
        record { taken = rw more (summed_next w.taken s f); part = omega (arith, w.part) }
