-- Laws of sums over the numbers below n. Assumes nothing.
use mathlib.Core.Path.{◌≡◌, refl, ap}
use mathlib.Core.Logic.{◌≢◌}
use Prim.Native.Nat.{ℕ, zero, suc, ◌+◌, ◌≤◌, ◌<◌}
use native.Mathlib.Omega.{arith}
use native.Mathlib.Decide.{ℕ_discrete}
use Rattle.finite.specs.Finite.{sum_to}

pub sum_ext : (n : ℕ) (f g : ℕ → ℕ) → ((j : ℕ) → j < n → f j ≡ g j) → sum_to n f ≡ sum_to n g
unfolding sum_to
sum_ext zero f g e = refl
sum_ext (suc n) f g e = omega (arith, sum_ext n f g (λ j l. e j (omega arith)), e n (omega arith))

pub sum_le : (n : ℕ) (f g : ℕ → ℕ) → ((j : ℕ) → j < n → f j ≤ g j) → sum_to n f ≤ sum_to n g
unfolding sum_to
sum_le zero f g e = omega arith
sum_le (suc n) f g e = omega (arith, sum_le n f g (λ j l. e j (omega arith)), e n (omega arith))

pub sum_zero : (n : ℕ) (f : ℕ → ℕ) → ((j : ℕ) → j < n → f j ≡ 0) → sum_to n f ≡ 0
unfolding sum_to
sum_zero zero f e = refl
sum_zero (suc n) f e = omega (arith, sum_zero n f (λ j l. e j (omega arith)), e n (omega arith))

pub sum_add : (n : ℕ) (f g : ℕ → ℕ) → sum_to n (λ j. f j + g j) ≡ sum_to n f + sum_to n g
unfolding sum_to
sum_add zero f g = refl
sum_add (suc n) f g = omega (arith, sum_add n f g)

-- a sum whose later terms are 0
pub sum_beyond : (m n : ℕ) (f : ℕ → ℕ) → m ≤ n → ((i : ℕ) → m ≤ i → i < n → f i ≡ 0) → sum_to n f ≡ sum_to m f
unfolding sum_to
sum_beyond m zero f l z = let e : 0 ≡ m = omega arith in ap (λ (i : ℕ). sum_to i f) e
sum_beyond m (suc n) f l z = go (ℕ_discrete (suc n) m) (λ (k : m ≤ n). sum_beyond m n f k (λ i p q. z i p (omega arith)))
  where
    go : Dec (suc n ≡ m) → (m ≤ n → sum_to n f ≡ sum_to m f) → sum_to (suc n) f ≡ sum_to m f
    go (yes e) ih = ap (λ (i : ℕ). sum_to i f) e
    go (no e) ih = omega (arith, z n (omega arith) (omega arith), ih (omega arith))

-- two sums that differ at m alone
pub sum_at : (n : ℕ) (f g : ℕ → ℕ) (m k : ℕ) → m < n → ((j : ℕ) → j < n → j ≢ m → f j ≡ g j) → f m ≡ g m + k → sum_to n f ≡ sum_to n g + k
unfolding sum_to
sum_at zero f g m k l e d = omega arith
sum_at (suc n) f g m k l e d = go (ℕ_discrete n m) (λ (l' : m < n). sum_at n f g m k l' (λ j p. e j (omega arith)) d)
  where
    go : Dec (n ≡ m) → (m < n → sum_to n f ≡ sum_to n g + k) → sum_to n f + f n ≡ sum_to n g + g n + k
    go (yes q) ih = omega (arith, sum_ext n f g (λ j p. e j (omega arith) (omega arith)), ap f q, ap g q)
    go (no q) ih = omega (arith, ih (omega arith), e n (omega arith) q)

-- a sum of at most another's terms, and less at m
pub sum_lt : (n : ℕ) (f g : ℕ → ℕ) (m : ℕ) → m < n → ((j : ℕ) → j < n → f j ≤ g j) → f m < g m → sum_to n f < sum_to n g
unfolding sum_to
sum_lt zero f g m l e d = omega arith
sum_lt (suc n) f g m l e d = go (ℕ_discrete n m) (λ (l' : m < n). sum_lt n f g m l' (λ j p. e j (omega arith)) d)
  where
    go : Dec (n ≡ m) → (m < n → sum_to n f < sum_to n g) → sum_to n f + f n < sum_to n g + g n
    go (yes q) ih = omega (arith, sum_le n f g (λ j p. e j (omega arith)), ap f q, ap g q)
    go (no q) ih = omega (arith, ih (omega arith), e n (omega arith))
