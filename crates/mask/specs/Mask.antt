-- Sets of small numbers as masks. 01: bit k of a mask names number k. Assumes nothing.
use Rattle.std.specs.Prelude.{◌≡◌, Bool, ℕ, ◌-◌, ◌/◌, ◌%◌, ◌^◌, ◌<◌, T, eqb, ltb, Option, MatchOption}
use Rattle.std.specs.Int.Bits.{bit_and, bit_or}
use Rattle.finite.specs.Finite.{only, sum_to, first_from}

-- digit k of m
abbrev pub bit : ℕ → ℕ → ℕ
bit m k = m / 2 ^ k % 2

-- k is in m
abbrev pub has : ℕ → ℕ → Bool
has m k = eqb (bit m k) 1

-- every number of c is in s
abbrev pub Subset : ℕ → ℕ → Type 0
Subset c s = (k : ℕ) → T (has c k) → T (has s k)

-- the same, as a test: what c and s share is all of c
abbrev pub within : ℕ → ℕ → Bool
within c s = eqb (bit_and c s) c

-- m names only numbers below n
abbrev pub below : ℕ → ℕ → Bool
below n m = ltb m (2 ^ n)

-- how many numbers below w are in m
abbrev pub cardinality : ℕ → ℕ → ℕ
cardinality w m = sum_to w (bit m)

-- m and k
abbrev pub insert_of : ℕ → ℕ → ℕ
insert_of m k = bit_or m (2 ^ k)

-- m without k
abbrev pub remove_of : ℕ → ℕ → ℕ
remove_of m k = m - bit_and m (2 ^ k)

-- the lowest of the numbers below w that are in m; 0 if none is
abbrev pub lowest_of : ℕ → ℕ → ℕ
lowest_of w m = first_from w (has m) 0

-- the numbers below n that pass the test p
abbrev pub mask_of : ℕ → (ℕ → Bool) → ℕ
mask_of n p = sum_to n (λ k. only (p k) (2 ^ k))

-- the sum of f over the numbers below n that are in m
unfoldable pub sum_over : ℕ → ℕ → (ℕ → ℕ) → ℕ
sum_over n m f = sum_to n (λ k. only (has m k) (f k))

-- of the numbers in `left` the lowest comes next, k, and the others are left
abbrev pub ComesNext : ℕ → ℕ → ℕ → Type 0
ComesNext left k rest = (0 < left) × (k ≡ lowest_of 32 left) × (rest ≡ remove_of left k)

-- of the numbers in `left` the next came, or none was left, and none is
abbrev pub NextMember : ℕ → Option ℕ → ℕ → Type 0
NextMember left r rest = MatchOption r ((left ≡ 0) × (rest ≡ 0)) (λ k. ComesNext left k rest)
