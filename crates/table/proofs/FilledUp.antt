-- An array filled from the left: the first j numbers, and zeros behind them. Assumes nothing.
use mathlib.Core.Path.{◌≡◌, sym, ◌∙◌}
use mathlib.Core.List.{List}
use Prim.Native.Nat.{ℕ, ◌+◌, ◌<◌}
use native.Mathlib.Decide.{ℕ_discrete, dec_lt}
use native.Mathlib.Omega.{arith}
use lib.ListN.{get_or, set, replicate, length-set, length-replicate}
use lib.Seq.{get_or-set_same, get_or-set_other, ext_get_or}
use Rattle.finite.proofs.Stored.{zeros}
use Rattle.table.specs.Table.{column}
use Rattle.table.proofs.Columns.{column_length, column_in, column_beyond}

pub column_start : (places : ℕ) (f : ℕ → ℕ) → replicate places 0 ≡ column places 0 f
column_start places f = ext_get_or 0 (replicate places 0) (column places 0 f) (length-replicate places 0 ∙ sym (column_length places 0 f))
    (λ k l. zeros places k ∙ sym (column_beyond places 0 f k (omega arith)))

pub column_next : (f : ℕ → ℕ) {places j v : ℕ} {out : List ℕ} → out ≡ column places j f → j < places → v ≡ f j → set out j v ≡ column places (j + 1) f
column_next f {places} {j} {v} {out} w l e = rw w (ext_get_or 0 (set old j v) (column places (j + 1) f) (length-set old j v ∙ column_length places j f ∙ sym (column_length places (j + 1) f))
    (λ k m. go k (ℕ_discrete k j) (dec_lt k j)))
  where
    old : List ℕ
    old = column places j f

    go : (k : ℕ) → Dec (k ≡ j) → Dec (k < j) → get_or (set old j v) k 0 ≡ get_or (column places (j + 1) f) k 0
    go k (yes q) d = rw q (get_or-set_same old j v 0 (omega (arith, column_length places j f)) ∙ e ∙ sym (column_in places (j + 1) f j (omega arith) (omega arith)))
    go k (no q) (yes d) = get_or-set_other old j k v 0 q ∙ column_in places j f k (omega arith) d ∙ sym (column_in places (j + 1) f k (omega arith) (omega arith))
    go k (no q) (no d) = get_or-set_other old j k v 0 q ∙ column_beyond places j f k (omega arith) ∙ sym (column_beyond places (j + 1) f k (omega arith))
