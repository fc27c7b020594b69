-- An array filled from the left: the loop's invariant and its laws. Assumes nothing.
use mathlib.Core.Path.{◌≡◌, sym, ◌∙◌}
use mathlib.Core.List.{List}
use Prim.Native.Nat.{ℕ, ◌+◌, ◌≤◌, ◌<◌}
use native.Mathlib.Omega.{arith}
use borrow.Author.Count.{below_none, below_more}
use lib.Dec.{ltb}
use lib.ListN.{length, get_or, set, length-set}
use lib.Seq.{get_or-set_same, get_or-set_other, ext_get_or}
use Rattle.finite.specs.Finite.{only}
use Rattle.table.specs.Table.{column}
use Rattle.table.proofs.Columns.{column_at, column_length}

-- the first j places of the array are those of the column
pub record Filled (places n : ℕ) (f : ℕ → ℕ) (j : ℕ) (out : List ℕ) : Type 0 where
  pub long : length out ≡ places
  pub upto : j ≤ places
  pub done : (k : ℕ) → k < j → get_or out k 0 ≡ only (ltb k n) (f k)

pub fill_start : (n : ℕ) (f : ℕ → ℕ) (out : List ℕ) → Filled (length out) n f 0 out
fill_start n f out = record { long = omega arith; upto = omega arith; done = below_none _ }

module _ {places n : ℕ} {f : ℕ → ℕ} {j : ℕ} {out : List ℕ} (w : Filled places n f j out) where
  pub fill_put : {v : ℕ} → j < places → v ≡ only (ltb j n) (f j) → Filled places n f (j + 1) (set out j v)
  fill_put {v} l e = record {
    long = length-set out j v ∙ w.long;
    upto = omega arith;
    done = below_more _ _
        (λ k m. get_or-set_other out j k v 0 (λ q. omega arith) ∙ w.done k m)
        (get_or-set_same out j v 0 (omega (arith, w.long)) ∙ e);
  }

  pub fill_end : places ≤ j → out ≡ column places n f
  fill_end l = ext_get_or 0 out (column places n f) (w.long ∙ sym (column_length places n f))
      (λ k m. w.done k (omega (arith, w.long)) ∙ sym (column_at places n f k (omega (arith, w.long))))
