-- A column of n numbers and zeros behind them: its length, and what stands at each place. Assumes nothing.
use mathlib.Core.Path.{◌≡◌, refl, sym, ap, subst, ◌∙◌}
use mathlib.Core.Bool.{Bool, true, false}
use mathlib.Core.List.{List, [], ◌∷◌}
use Prim.Native.Nat.{ℕ, zero, suc, ◌+◌, ◌^◌, ◌≤◌, ◌<◌}
use native.Mathlib.Nat.{not-suc-le-zero}
use native.Mathlib.Numerals.{add-one}
use native.Mathlib.Omega.{arith}
use native.Mathlib.Decide.{ℕ_discrete, dec_lt}
use borrow.Author.Tests.{lt-ltb, le-ltb}
use lib.Dec.{ltb}
use lib.ListN.{length, get_or, set, length-set, length-append, get_or-append, get_or-eq_default}
use lib.Seq.{get_or_at, get_or-set_same, get_or-set_other, ext_get_or}
use lib.Pow.{pow_pos}
use Rattle.finite.specs.Finite.{only}
use Rattle.layout.specs.declared.Kind.{Kind}
use Rattle.layout.specs.declared.Progress.{Progress}
use Rattle.layout.specs.Format.{row, field, count, place}
use Rattle.layout.specs.Format.{Counted}
use Rattle.table.specs.Table.{column, column_of}
use Rattle.table.specs.Sound.{Column}

pub column_length : (p n : ℕ) (f : ℕ → ℕ) → length (column p n f) ≡ p
unfolding column
column_length zero n f = refl
column_length (suc p) n f = length-append (column p n f) _ ∙ ap (λ (l : ℕ). l + 1) (column_length p n f) ∙ add-one p

pub column_at : (p n : ℕ) (f : ℕ → ℕ) (j : ℕ) → j < p → get_or (column p n f) j 0 ≡ only (ltb j n) (f j)
unfolding column
column_at zero n f j l = absurd (not-suc-le-zero l)
column_at (suc p) n f j l = go (ℕ_discrete p j) (λ (k : j < p). column_at p n f j k)
  where
    last : List ℕ
    last = only (ltb p n) (f p) ∷ []

    go : Dec (p ≡ j) → (j < p → get_or (column p n f) j 0 ≡ only (ltb j n) (f j)) → get_or (column (suc p) n f) j 0 ≡ only (ltb j n) (f j)
    go (yes e) ih = subst (λ (i : ℕ). get_or (column (suc p) n f) i 0 ≡ only (ltb i n) (f i)) e (get_or_at (column p n f) _ [] 0 p (column_length p n f))
    go (no e) ih = get_or-append (column p n f) last 0 j (omega (arith, column_length p n f)) ∙ ih (omega arith)

-- at a number's place, and beyond the numbers
pub column_in : (p n : ℕ) (f : ℕ → ℕ) (j : ℕ) → n ≤ p → j < n → get_or (column p n f) j 0 ≡ f j
column_in p n f j m l = column_at p n f j (omega arith) ∙ ap (λ (b : Bool). only b (f j)) (lt-ltb j n l)

pub column_beyond : (p n : ℕ) (f : ℕ → ℕ) (j : ℕ) → n ≤ j → get_or (column p n f) j 0 ≡ 0
column_beyond p n f j l = go (dec_lt j p)
  where
    go : Dec (j < p) → get_or (column p n f) j 0 ≡ 0
    go (yes k) = column_at p n f j k ∙ ap (λ (b : Bool). only b (f j)) (le-ltb j n l)
    go (no k) = get_or-eq_default (column p n f) 0 (omega (arith, column_length p n f))

-- one number more
pub column_more : (p n : ℕ) (f : ℕ → ℕ) → n < p → set (column p n f) n (f n) ≡ column p (suc n) f
column_more p n f l = ext_get_or 0 (set (column p n f) n (f n)) (column p (suc n) f) (length-set (column p n f) n (f n) ∙ column_length p n f ∙ sym (column_length p (suc n) f)) (λ i m. go i (ℕ_discrete i n) (dec_lt i n))
  where
    go : (i : ℕ) → Dec (i ≡ n) → Dec (i < n) → get_or (set (column p n f) n (f n)) i 0 ≡ get_or (column p (suc n) f) i 0
    go i (yes e) d = rw e (get_or-set_same (column p n f) n (f n) 0 (omega (arith, column_length p n f)) ∙ sym (column_in p (suc n) f n l (omega arith)))
    go i (no e) (yes m) = get_or-set_other (column p n f) n i (f n) 0 e ∙ column_in p n f i (omega arith) m ∙ sym (column_in p (suc n) f i l (omega arith))
    go i (no e) (no m) = get_or-set_other (column p n f) n i (f n) 0 e ∙ column_beyond p n f i (omega arith) ∙ sym (column_beyond p (suc n) f i (omega arith))

-- numbers of so many bits
pub column_sound : (p n bits : ℕ) (f : ℕ → ℕ) → ((j : ℕ) → f j < 2 ^ bits) → Column p n bits (column p n f)
column_sound p n bits f small = record { long = column_length p n f; fits = λ j. go j (dec_lt j p); beyond = column_beyond p n f }
  where
    only_lt : (b : Bool) (v : ℕ) → v < 2 ^ bits → only b v < 2 ^ bits
    only_lt true v l = l
    only_lt false v l = pow_pos bits

    go : (j : ℕ) → Dec (j < p) → get_or (column p n f) j 0 < 2 ^ bits
    go j (yes l) = rw (column_at p n f j l) (only_lt (ltb j n) (f j) (small j))
    go j (no l) = rw (get_or-eq_default (column p n f) 0 {n = j} (omega (arith, column_length p n f))) (pow_pos bits)

-- the field of a record, from its column
pub value : {x : Progress} → Counted x → (s : List ℕ) (k : Kind) (i j : ℕ) → j < count x k → get_or (column_of (row k).most s x k i) j 0 ≡ field k i s (place x k j)
value {x} c s k i j = column_in (row k).most (count x k) (λ n. field k i s (place x k n)) j (c.few k)
