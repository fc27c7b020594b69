-- What follows from what is asked, and from what a caller of the search holds. Assumes nothing.
use mathlib.Core.Path.{◌≡◌, refl}
use mathlib.Core.Bool.{Bool, true, false}
use mathlib.Core.List.{List}
use Prim.Native.Nat.{ℕ, ◌<◌}
use native.Mathlib.Omega.{arith}
use lib.Dec.{T}
use lib.ListN.{get_or}
use Rattle.mask.specs.Mask.{below, sum_over}
use Rattle.mask.proofs.Laws.{has_below, sum_same}
use Rattle.table.specs.declared.Table.{Table}
use Rattle.schedule.specs.Arrays.{Says}
use Rattle.schedule.proofs.Says.{says_yes, says_no, says_iff}
use Rattle.rules.specs.Sets.{memory_of, load_of}
use Rattle.rows.proofs.Laws.{loads_get}
use Rattle.partial.specs.declared.State.{State}
use Rattle.partial.specs.declared.Sizes.{Sizes}
use Rattle.partial.specs.Partial.{Lent, Fits}
use Rattle.partial.proofs.OneMore.{work}
use Rattle.symmetry.specs.Symmetry.{SameResidence, Alike, Interchangeable}
use Rattle.symmetry.specs.Asks.{Asks, SaysAlike}
use Rattle.rows.specs.declared.Rows.{Rows}
use Rattle.rows.specs.declared.Messages.{Messages}

-- a caller that holds the rows of the rules
pub asks : {t : Table} {sizes : Sizes} {rows : Rows} {links : Messages} {s : State} {p : ℕ}
    → Lent t sizes rows links → Fits t s → p < sizes.processors → Asks t rows s p
asks lent fits l = record {
  sound = lent.sound;
  same_residence = lent.same_residence;
  same_memory = lent.same_memory;
  same_loads = lent.same_loads;
  fits = fits;
  known = omega (arith, lent.processors);
}

module _ {t : Table} {rows : Rows} {s : State} {p : ℕ} (w : Asks t rows s p) where
  open_below : T (below t.tasks.count s.left)
  open_below = has_below t.tasks.count s.left (λ k u. (w.fits.open_task k u).0)

  pub open_low : T (below 24 s.left)
  open_low = has_below 24 s.left (λ k u. omega (arith, (w.fits.open_task k u).0, w.sound.tasks.most))

  -- the sums of the lent rows are those of the table
  sum_memory : sum_over t.tasks.count s.left (λ k. get_or rows.memory k 0) ≡ memory_of t.tasks s.left
  unfolding memory_of
  sum_memory = rw w.same_memory refl

  sum_load : sum_over t.tasks.count s.left (λ k. get_or rows.load k 0) ≡ load_of t.tasks t.hyperperiod s.left
  unfolding load_of
  sum_load = sum_same t.tasks.count s.left (λ k. get_or rows.load k 0) (work t) (λ k l u. rw (w.same_loads, loads_get t w.sound k l) refl)

  -- the code's answer on the memory of p and q, and on their load
  module _ (q : ℕ) {r : Bool} where
    module _ (x : SaysAlike r rows.memory s.left (get_or s.memory q 0) (get_or s.memory p 0)) where
      pub memory_yes : r ≡ true → Alike (memory_of t.tasks s.left) (get_or s.memory q 0) (get_or s.memory p 0)
      memory_yes e = rw sum_memory at (says_yes r _ (x t.tasks.count open_below) e)

      pub memory_no : r ≡ false → Interchangeable t s q p → ⊥
      memory_no e i = says_no r _ (x t.tasks.count open_below) e (rw sum_memory i.memory)

    module _ (x : SaysAlike r rows.load s.left (get_or s.load q 0) (get_or s.load p 0)) where
      pub load_yes : r ≡ true → Alike (load_of t.tasks t.hyperperiod s.left) (get_or s.load q 0) (get_or s.load p 0)
      load_yes e = rw sum_load at (says_yes r _ (x t.tasks.count open_below) e)

      pub load_no : r ≡ false → Interchangeable t s q p → ⊥
      load_no e i = says_no r _ (x t.tasks.count open_below) e (rw sum_load i.load)

  -- where all else is the same, the residences decide
  pub residence_says : {q : ℕ} → q < p → get_or s.on q 0 ≡ 0 → get_or s.on p 0 ≡ 0
      → Alike (memory_of t.tasks s.left) (get_or s.memory q 0) (get_or s.memory p 0)
      → Alike (load_of t.tasks t.hyperperiod s.left) (get_or s.load q 0) (get_or s.load p 0)
      → (r : Bool) → Says r (SameResidence rows.residence s.left q p) → Says r (Interchangeable t s q p)
  residence_says {q} l empty_q empty_p memory load r x =
      says_iff r (SameResidence t.tasks.residence s.left q p) (Interchangeable t s q p) (rw w.same_residence at x)
      (λ same. record {
        known_p = omega (arith, w.known);
        known_q = w.known;
        empty_p = empty_q;
        empty_q = empty_p;
        residence = same;
        memory = memory;
        load = load;
      })
      (λ i. i.residence)
