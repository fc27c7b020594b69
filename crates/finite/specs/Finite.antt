-- Sums, tests, searches and lists over the numbers below n. Assumes nothing.
use Rattle.std.specs.Prelude.{Bool, true, false, ◌||◌, List, [], ◌∷◌, ℕ, zero, suc, ◌+◌}

-- x where the test passes, else 0
abbrev pub only : Bool → ℕ → ℕ
only true x = x
only false x = 0

-- f 0 + .. + f (n - 1)
unfoldable pub sum_to : ℕ → (ℕ → ℕ) → ℕ
sum_to zero f = 0
sum_to (suc n) f = sum_to n f + f n

-- some number below n passes
unfoldable pub some_below : ℕ → (ℕ → Bool) → Bool
some_below zero p = false
some_below (suc n) p = some_below n p || p n

-- the first that passes of the n numbers from x on; 0 if none does
unfoldable pub first_from : ℕ → (ℕ → Bool) → ℕ → ℕ
first_from zero p x = 0
first_from (suc n) p x = elim (p x) [ true ↦ x | false ↦ first_from n p (suc x) ]

-- the lowest number below n that passes; n if none does
unfoldable pub first_below : ℕ → (ℕ → Bool) → ℕ
first_below zero p = 0
first_below (suc n) p = elim (p 0) [ true ↦ 0 | false ↦ suc (first_below n (λ k. p (suc k))) ]

-- the list f 0, .., f (n - 1)
unfoldable pub tabulate : {A : Type 0} → ℕ → (ℕ → A) → List A
tabulate zero f = []
tabulate (suc n) f = f 0 ∷ tabulate n (λ i. f (suc i))
