-- A list of different sets of n tasks is short: so the count of bytes of an answer is below 2 ^ 32. Assumes nothing.
use mathlib.Core.Path.{◌≡◌, sym, ap, ◌∙◌}
use mathlib.Core.Bool.{Bool, cond}
use mathlib.Core.List.{List}
use Prim.Native.Nat.{ℕ, zero, suc, ◌^◌, ◌≤◌, ◌<◌}
use native.Mathlib.Omega.{arith}
use native.Mathlib.Decide.{ℕ_discrete}
use borrow.Author.Tests.{eq-eqb, ne_eqb}
use lib.Dec.{eqb, ltb, ltb→lt}
use lib.ListN.{length, get_or}
use lib.Pow.{pow_mono}
use Rattle.mask.proofs.Tests.{and_left}
use Rattle.mask.proofs.Laws.{has_below}
use Rattle.table.specs.declared.Table.{Table}
use Rattle.table.specs.Sound.{Sound}
use Rattle.answer.specs.Answer.{count_of}
use Rattle.goal.specs.Goal.{Listed}
use Rattle.goal.proofs.Mark.{met_elim}

-- n different numbers below m are no more than m
different_few : (n m : ℕ) (f : ℕ → ℕ) → ((j : ℕ) → j < n → f j < m) → ((i j : ℕ) → i < n → j < n → f i ≡ f j → i ≡ j) → n ≤ m
different_few zero m f small different = omega arith
different_few (suc n) zero f small different = absurd (omega (arith, small n (omega arith)))
different_few (suc n) (suc m) f small different =
    omega (arith, different_few n m g (λ j l. less j l (ℕ_discrete (f j) m)) (λ i j a b e. apart i j a b (ℕ_discrete (f i) m) (ℕ_discrete (f j) m) e))
  where
    -- the largest number is given up for the last one
    g : ℕ → ℕ
    g j = cond (eqb (f j) m) (f n) (f j)

    top : (j : ℕ) → f j ≡ m → g j ≡ f n
    top j e = ap (λ (b : Bool). cond b (f n) (f j)) (eq-eqb (f j) m e)

    other : (j : ℕ) → (f j ≡ m → ⊥) → g j ≡ f j
    other j e = ap (λ (b : Bool). cond b (f n) (f j)) (ne_eqb (f j) m e)

    last : (j : ℕ) → j < n → f j ≡ f n → ⊥
    last j l e = omega (arith, different j n (omega arith) (omega arith) e)

    less : (j : ℕ) → j < n → Dec (f j ≡ m) → g j < m
    less j l (yes e) = let h : f n ≡ m → ⊥ = λ q. last j l (e ∙ sym q) in rw (top j e) (omega (arith, small n (omega arith), h))
    less j l (no e) = rw (other j e) (omega (arith, small j (omega arith), e))

    apart : (i j : ℕ) → i < n → j < n → Dec (f i ≡ m) → Dec (f j ≡ m) → g i ≡ g j → i ≡ j
    apart i j a b (yes e) (yes h) q = different i j (omega arith) (omega arith) (e ∙ sym h)
    apart i j a b (yes e) (no h) q = absurd (last j b (sym (other j h) ∙ sym q ∙ top i e))
    apart i j a b (no e) (yes h) q = absurd (last i a (sym (other i e) ∙ q ∙ top j h))
    apart i j a b (no e) (no h) q = different i j (omega arith) (omega arith) (sym (other i e) ∙ q ∙ other j h)

module _ {t : Table} (h : Sound t) {cs : List ℕ} (w : Listed t cs) where
  -- each is a set of the table's tasks
  pub listed_below : (j : ℕ) → j < length cs → get_or cs j 0 < 2 ^ t.tasks.count
  listed_below j l =
      let m = met_elim h (get_or cs j 0) (w.met j l) in
      let e = m.0 in
      let o = m.4 in
      ltb→lt (get_or cs j 0) (2 ^ t.tasks.count)
      (has_below t.tasks.count (get_or cs j 0) (λ k u. omega (arith, ltb→lt k (length e) (and_left (ltb k (length e)) (eqb (get_or e k 0) o.0) (o.2 k u)), m.1.long)))

  listed_few : length cs ≤ 2 ^ 24
  listed_few = omega (arith, different_few (length cs) (2 ^ t.tasks.count) (λ j. get_or cs j 0) listed_below w.different, pow_mono h.tasks.most)

  -- the count of bytes of an answer
  pub count_small : count_of t.tasks.count (length cs) < 2 ^ 32
  count_small = omega (arith, listed_few, h.tasks.most)
