-- Laws of masks, for any width. Assumes nothing.
use mathlib.Core.Path.{◌≡◌, refl, sym, ap, ◌∙◌}
use mathlib.Core.Logic.{◌≢◌, ⊎_elim}
use mathlib.Core.Bool.{Bool, true, false, not, ◌&&◌, ◌||◌, and-false}
use Prim.Native.Nat.{ℕ, zero, suc, ◌+◌, ◌-◌, ◌*◌, ◌/◌, ◌%◌, ◌^◌, ◌<◌, ◌≤◌, min, max}
use native.Mathlib.Nat.{one-mul, div-one, div-eq_of_lt, div-mul-le_self, mod-le, mul-le-mul_right, pow-suc, zero-div, mul_assoc, le-div_iff_mul-le, div-lt_iff_lt-mul}
use native.Mathlib.Nat.{le_of_suc-le-suc, lt_of_not-le, lt_of_lt_of_le, lt_of_le_of_lt, le_antisymm, le_of_eq}
use native.Mathlib.Decide.{ℕ_discrete}
use native.Mathlib.Omega.{arith}
use borrow.Author.Tests.{eq-eqb, ne_eqb, lt-ltb, le-ltb}
use lib.Dec.{T, eqb, ltb, eqb→eq, eqb_refl, ltb→lt, lt→ltb, eqb-suc-zero, eqb-zero-suc, eqb-suc-suc}
use lib.Bits.{bit_and, bit_or, and_self, and_step, or_step, and_shr, or_shr, or_shifted_r, and_le_l, and_high}
use lib.Count.{ones, ones_step, count_trailing_zeros, under}
use lib.Pow.{shl_exact, pow-add, pow_mono, pow_pos, shr-shr}
use Rattle.finite.specs.Finite.{only, sum_to}
use Rattle.finite.proofs.Sum.{sum_at, sum_ext, sum_beyond, sum_zero}
use Rattle.finite.proofs.Only.{only_le, only_out, sum_bound, sum_more}
use Rattle.finite.proofs.Some.{or_either}
use Rattle.finite.proofs.First.{First, first, found, missing}
use Rattle.mask.proofs.Tests.{same_test, and_both, and_left, and_right}
use Rattle.mask.specs.Mask.{bit, has, Subset, within, below, cardinality, insert_of, remove_of, lowest_of, mask_of, sum_over}

-- ---- a digit is 1 or 0 as the test says

-- a digit given as a test, and back
pub has_of : (m k : ℕ) (b : Bool) → bit m k ≡ only b 1 → has m k ≡ b
has_of m k true e = eq-eqb (bit m k) 1 e
has_of m k false e = ne_eqb (bit m k) 1 (omega arith)

pub bit_only : (m k : ℕ) → bit m k ≡ only (has m k) 1
bit_only m k = go (ℕ_discrete (bit m k) 1)
  where
    go : Dec (bit m k ≡ 1) → bit m k ≡ only (has m k) 1
    go (yes e) = rw (eq-eqb (bit m k) 1 e) e
    go (no e) = rw (ne_eqb (bit m k) 1 e) (omega arith)

-- the digits of the half
bit_half : (m k : ℕ) → bit (m / 2) k ≡ bit m (suc k)
bit_half m k = ap (λ (x : ℕ). x % 2) (shr-shr m 1 k) ∙ ap (λ (n : ℕ). m / 2 ^ n % 2) (omega arith)

has_half : (m k : ℕ) → has (m / 2) k ≡ has m (suc k)
has_half m k = ap (λ (x : ℕ). eqb x 1) (bit_half m k)

-- ---- the members after each operation

only_min : (a b : Bool) → min (only a 1) (only b 1) ≡ only (a && b) 1
only_min true true = refl
only_min true false = refl
only_min false true = refl
only_min false false = refl

only_max : (a b : Bool) → max (only a 1) (only b 1) ≡ only (b || a) 1
only_max true true = refl
only_max true false = refl
only_max false true = refl
only_max false false = refl

-- nothing is in 0
pub has_zero : (k : ℕ) → has 0 k ≡ false
has_zero k = rw zero-div refl

pub has_and : (a b k : ℕ) → has (bit_and a b) k ≡ (has a k && has b k)
has_and a b k = has_of (bit_and a b) k (has a k && has b k)
    (ap (λ (x : ℕ). x % 2) (and_shr a b k ∙ and_step (a / 2 ^ k) (b / 2 ^ k))
    ∙ omega (arith, bit_only a k, bit_only b k, only_min (has a k) (has b k)))

pub has_or : (a b k : ℕ) → has (bit_or a b) k ≡ (has b k || has a k)
has_or a b k = has_of (bit_or a b) k (has b k || has a k)
    (ap (λ (x : ℕ). x % 2) (or_shr a b k ∙ or_step (a / 2 ^ k) (b / 2 ^ k))
    ∙ omega (arith, bit_only a k, bit_only b k, only_max (has a k) (has b k)))

pub has_pow : (k j : ℕ) → has (2 ^ k) j ≡ eqb j k
has_pow zero zero = refl
has_pow zero (suc j) = sym (has_half 1 j) ∙ has_zero j ∙ sym (eqb-suc-zero j)
has_pow (suc k) zero = rw (eqb-zero-suc k, div-one (2 ^ suc k)) (ne_eqb (2 ^ suc k % 2) 1 (omega arith))
has_pow (suc k) (suc j) = sym (has_half (2 ^ suc k) j) ∙ ap (λ (x : ℕ). has x j) (omega arith) ∙ has_pow k j ∙ sym (eqb-suc-suc j k)

pub has_insert : (m k j : ℕ) → has (insert_of m k) j ≡ (eqb j k || has m j)
has_insert m k j = rw (has_or m (2 ^ k) j, has_pow k j)

and_pow : (m k : ℕ) → bit_and m (2 ^ k) ≡ bit m k * 2 ^ k
and_pow m k = ap (bit_and m) (omega (arith, pow-add 2 1 k)) ∙ and_high m 1 k

digit_le : (m k : ℕ) → bit m k * 2 ^ k ≤ m
digit_le m k = omega (arith, mul-le-mul_right (2 ^ k) (mod-le (m / 2 ^ k) 2), div-mul-le_self m (2 ^ k))

-- digit k + 1 of m with its weight is twice digit k of the half
digit_half : (m k : ℕ) → bit m (suc k) * 2 ^ suc k ≡ bit (m / 2) k * 2 ^ k * 2
digit_half m k = ap (λ (x : ℕ). x * 2 ^ suc k) (sym (bit_half m k)) ∙ ap (λ (x : ℕ). bit (m / 2) k * x) (pow-suc 2 k) ∙ sym (mul_assoc (bit (m / 2) k) (2 ^ k) 2)

-- a digit from the half
has_suc : (a b j : ℕ) → a / 2 ≡ b → has a (suc j) ≡ has b j
has_suc a b j e = sym (has_half a j) ∙ ap (λ (x : ℕ). has x j) e

cleared : (k j m : ℕ) → has (m - bit m k * 2 ^ k) j ≡ (not (eqb j k) && has m j)
cleared zero zero m = has_of (m - bit m 0 * 1) 0 false (omega arith)
cleared zero (suc j) m = rw (eqb-suc-zero j) (has_suc (m - bit m 0 * 1) (m / 2) j (omega arith) ∙ has_half m j)
cleared (suc k) zero m =
    let e : bit (m - bit m (suc k) * 2 ^ suc k) 0 ≡ bit m 0 = omega (arith, digit_half m k, digit_le (m / 2) k) in
    rw (eqb-zero-suc k) (ap (λ (x : ℕ). eqb x 1) e)
cleared (suc k) (suc j) m =
    rw (eqb-suc-suc j k)
    (has_suc (m - bit m (suc k) * 2 ^ suc k) (m / 2 - bit (m / 2) k * 2 ^ k) j (omega (arith, digit_half m k, digit_le (m / 2) k))
    ∙ cleared k j (m / 2)
    ∙ ap (λ (b : Bool). not (eqb j k) && b) (has_half m j))

pub has_remove : (m k j : ℕ) → has (remove_of m k) j ≡ (not (eqb j k) && has m j)
has_remove m k j = rw (and_pow m k) (cleared k j m)

-- a member less is a smaller number, and leaves a subset without it
pub remove_lt : (m k : ℕ) → T (has m k) → remove_of m k < m
remove_lt m k t = rw (and_pow m k, eqb→eq (bit m k) 1 t) (omega (arith, pow_pos k, one-mul (2 ^ k), rw (eqb→eq (bit m k) 1 t) at (digit_le m k)))

pub remove_subset : (m k : ℕ) → Subset (remove_of m k) m
remove_subset m k j t = and_right (not (eqb j k)) (has m j) (rw (has_remove m k j) at t)

pub remove_mono : (c s k : ℕ) → Subset c s → Subset (remove_of c k) (remove_of s k)
remove_mono c s k sub j t =
    let u = rw (has_remove c k j) at t in
    rw (has_remove s k j) (and_both (not (eqb j k)) (has s j) (and_left (not (eqb j k)) (has c j) u) (sub j (and_right (not (eqb j k)) (has c j) u)))

pub remove_not : (m k : ℕ) → T (has (remove_of m k) k) → ⊥
remove_not m k t = rw (has_remove m k k, eq-eqb k k refl) at t

-- ---- the mask of a test

pub mask_lt : (n : ℕ) (p : ℕ → Bool) → mask_of n p < 2 ^ n
unfolding sum_to
mask_lt zero p = omega arith
mask_lt (suc n) p = omega (arith, mask_lt n p, pow-suc 2 n, at_most (p n))
  where
    at_most : (b : Bool) → only b (2 ^ n) ≤ 2 ^ n
    at_most true = omega arith
    at_most false = omega arith

-- one number more: inserted if it passes
pub mask_insert : (n : ℕ) (p : ℕ → Bool) → p n ≡ true → insert_of (mask_of n p) n ≡ mask_of (suc n) p
unfolding sum_to
mask_insert n p e =
    rw (e, ← one-mul (2 ^ n), or_shifted_r 1 n (mask_of n p) (mask_lt n p)) (omega (arith, one-mul (2 ^ n)))

pub mask_skip : (n : ℕ) (p : ℕ → Bool) → p n ≡ false → mask_of n p ≡ mask_of (suc n) p
unfolding sum_to
mask_skip n p e = rw e (omega arith)

pub has_mask : (n : ℕ) (p : ℕ → Bool) (k : ℕ) → has (mask_of n p) k ≡ (ltb k n && p k)
unfolding sum_to
has_mask zero p k = has_zero k ∙ ap (λ (b : Bool). b && p k) (sym (le-ltb k 0 (omega arith)))
has_mask (suc n) p k = go (p n) refl (ℕ_discrete k n) (has_mask n p k)
  where
    wider : k ≢ n → ltb k n ≡ ltb k (suc n)
    wider d = same_test (ltb k n) (ltb k (suc n)) (λ t. lt→ltb k (suc n) (omega (arith, ltb→lt k n t))) (λ t. lt→ltb k n (omega (arith, ltb→lt k (suc n) t)))

    go : (b : Bool) → p n ≡ b → Dec (k ≡ n) → has (mask_of n p) k ≡ (ltb k n && p k) → has (mask_of (suc n) p) k ≡ (ltb k (suc n) && p k)
    go true e (yes q) ih = rw (← mask_insert n p e, has_insert (mask_of n p) n k, q, eq-eqb n n refl, e, lt-ltb n (suc n) (omega arith)) refl
    go true e (no q) ih = rw (← mask_insert n p e, has_insert (mask_of n p) n k, ne_eqb k n q, ← wider q) ih
    go false e (yes q) ih = rw (← mask_skip n p e) (ih ∙ off (ltb k n) ∙ sym (off (ltb k (suc n))))
      where
        off : (b : Bool) → (b && p k) ≡ false
        off b = rw (q, e) (and-false b)
    go false e (no q) ih = rw (← mask_skip n p e, ← wider q) ih

-- ---- masks with the same members

pub ext : (w : ℕ) {a b : ℕ} → a < 2 ^ w → b < 2 ^ w → ((k : ℕ) → k < w → has a k ≡ has b k) → a ≡ b
ext zero ha hb f = omega arith
ext (suc w) {a} {b} ha hb f =
    let pa : a < 2 ^ w * 2 = rw (← pow-suc 2 w) ha in
    let pb : b < 2 ^ w * 2 = rw (← pow-suc 2 w) hb in
    let halves : a / 2 ≡ b / 2 = ext w (omega arith) (omega arith) (λ k h. has_half a k ∙ f (suc k) (omega arith) ∙ sym (has_half b k)) in
    let low : a / 1 % 2 ≡ b / 1 % 2 = bit_only a 0 ∙ ap (λ (t : Bool). only t 1) (f 0 (omega arith)) ∙ sym (bit_only b 0) in
    omega arith

-- a mask that is not 0 has a member
pub some_member : (w m : ℕ) → 0 < m → m < 2 ^ w → (k : ℕ) × (k < w) × T (has m k)
some_member zero m p h = absurd (omega arith)
some_member (suc w) m p h = go (ℕ_discrete (bit m 0) 1) (λ (q : 0 < m / 2). some_member w (m / 2) q (omega (arith, pow-suc 2 w)))
  where
    go : Dec (bit m 0 ≡ 1) → (0 < m / 2 → (k : ℕ) × (k < w) × T (has (m / 2) k)) → (k : ℕ) × (k < suc w) × T (has m k)
    go (yes e) ih = (0, omega arith, rw e tt)
    go (no e) ih = let r = ih (omega arith) in (suc r.0, omega (arith, r.1), rw (has_half m r.0) at r.2)

-- ---- below

lt_two_pow : (m : ℕ) → m < 2 ^ m
lt_two_pow zero = omega arith
lt_two_pow (suc m) = omega (arith, lt_two_pow m, pow-suc 2 m)

-- only numbers below n: each member is below n, and the other way round
pub below_has : (n m : ℕ) → T (below n m) → (k : ℕ) → T (has m k) → k < n
below_has n m b k t = lt_of_not-le (λ (l : n ≤ k). rw (div-eq_of_lt (lt_of_lt_of_le (ltb→lt m (2 ^ n) b) (pow_mono l))) at t)

pub has_below : (n m : ℕ) → ((k : ℕ) → T (has m k) → k < n) → T (below n m)
has_below n m f = lt→ltb m (2 ^ n) (lt_of_not-le (λ (l : 2 ^ n ≤ m).
    let p : 0 < m / 2 ^ n = (le-div_iff_mul-le (pow_pos n)).1 (omega arith) in
    let r = some_member (m / 2 ^ n) (m / 2 ^ n) p (lt_two_pow (m / 2 ^ n)) in
    omega (arith, f (n + r.0) (rw (shr-shr m n r.0) at r.2))))

-- and so are a subset's
pub subset_below : (n c s : ℕ) → Subset c s → T (below n s) → T (below n c)
subset_below n c s sub h = has_below n c (λ k t. below_has n s h k (sub k t))

-- and those with one more
pub insert_below : (n m k : ℕ) → T (below n m) → k < n → T (below n (insert_of m k))
insert_below n m k low l = has_below n (insert_of m k) (λ j u. ⊎_elim (λ e. rw (eqb→eq j k e) l) (below_has n m low j) (or_either (eqb j k) (has m j) (rw (has_insert m k j) at u)))

-- nothing is left above digit n
pub none_above : (n m : ℕ) → eqb (m / 2 ^ n) 0 ≡ below n m
none_above n m = same_test (eqb (m / 2 ^ n) 0) (below n m)
    (λ t. lt→ltb m (2 ^ n) (omega (arith, (div-lt_iff_lt-mul (pow_pos n)).0 (le_of_eq (ap suc (eqb→eq (m / 2 ^ n) 0 t))))))
    (λ t. rw (div-eq_of_lt (ltb→lt m (2 ^ n) t)) tt)

-- ---- subsets

pub subset_within : (c s : ℕ) → Subset c s → T (within c s)
subset_within c s sub = rw (ext c {a = bit_and c s} {b = c} (lt_of_le_of_lt (and_le_l c s) (lt_two_pow c)) (lt_two_pow c) (λ k l. has_and c s k ∙ same k)) (eqb_refl c)
  where
    same : (k : ℕ) → (has c k && has s k) ≡ has c k
    same k = same_test (has c k && has s k) (has c k) (and_left (has c k) (has s k)) (λ t. and_both (has c k) (has s k) t (sub k t))

pub within_subset : (c s : ℕ) → T (within c s) → Subset c s
within_subset c s t k h = and_right (has c k) (has s k) (rw (has_and c s k) at (rw (← eqb→eq (bit_and c s) c t) at h))

-- ---- sums over the members, and the size

-- one member apart
pub sum_remove : (n m : ℕ) (f : ℕ → ℕ) (k : ℕ) → k < n → T (has m k) → sum_over n m f ≡ sum_over n (remove_of m k) f + f k
unfolding sum_over
sum_remove n m f k l t = sum_at n (λ j. only (has m j) (f j)) (λ j. only (has (remove_of m k) j) (f j)) k (f k) l other here
  where
    other : (j : ℕ) → j < n → j ≢ k → only (has m j) (f j) ≡ only (has (remove_of m k) j) (f j)
    other j _ d = rw (has_remove m k j, ne_eqb j k d) refl

    here : only (has m k) (f k) ≡ only (has (remove_of m k) k) (f k) + f k
    here = rw (has_remove m k k, eq-eqb k k refl) (in_m (has m k) t)
      where
        in_m : (b : Bool) → T b → only b (f k) ≡ 0 + f k
        in_m true u = omega arith
        in_m false u = absurd u

-- no members
pub sum_none : (n : ℕ) (f : ℕ → ℕ) → sum_over n 0 f ≡ 0
unfolding sum_over
sum_none n f = sum_zero n (λ j. only (has 0 j) (f j)) (λ j l. rw (has_zero j) refl)

-- fewer members
pub sum_subset : (n c s : ℕ) (f : ℕ → ℕ) → Subset c s → sum_over n c f ≤ sum_over n s f
unfolding sum_over
sum_subset n c s f sub = sum_more n (has c) (has s) f (λ j l. sub j)

-- other terms, the same of each member
pub sum_same : (n m : ℕ) (f g : ℕ → ℕ) → ((k : ℕ) → k < n → T (has m k) → f k ≡ g k) → sum_over n m f ≡ sum_over n m g
unfolding sum_over
sum_same n m f g e = sum_ext n (λ j. only (has m j) (f j)) (λ j. only (has m j) (g j)) (λ j l. go (has m j) (e j l))
  where
    go : (b : Bool) {x y : ℕ} → (T b → x ≡ y) → only b x ≡ only b y
    go true h = h tt
    go false h = refl

-- terms of at most b each
pub sum_most : (n m : ℕ) (f : ℕ → ℕ) (b : ℕ) → ((k : ℕ) → T (has m k) → f k ≤ b) → sum_over n m f ≤ n * b
unfolding sum_over
sum_most n m f b h = sum_bound n (λ j. only (has m j) (f j)) b (λ j l. only_le (has m j) (f j) b (h j))

-- numbers beyond the members add nothing
pub sum_wider : (n w m : ℕ) (f : ℕ → ℕ) → n ≤ w → T (below n m) → sum_over w m f ≡ sum_over n m f
unfolding sum_over
sum_wider n w m f l b = sum_beyond n w (λ j. only (has m j) (f j)) l (λ j h k. only_out (has m j) (f j) (λ u. omega (arith, below_has n m b j u)))

cardinality_only : (w m : ℕ) → cardinality w m ≡ sum_over w m (λ j. 1)
unfolding sum_over
cardinality_only w m = sum_ext w (bit m) (λ j. only (has m j) 1) (λ j l. bit_only m j)

pub cardinality_remove : (w m k : ℕ) → k < w → T (has m k) → cardinality w m ≡ cardinality w (remove_of m k) + 1
cardinality_remove w m k l t = omega (arith, cardinality_only w m, cardinality_only w (remove_of m k), sum_remove w m (λ j. 1) k l t)

-- the size from two different members
pub two_cardinality : (w m j k : ℕ) → j ≢ k → j < w → k < w → T (has m j) → T (has m k) → 2 ≤ cardinality w m
two_cardinality w m j k d lj lk tj tk =
    omega (arith, cardinality_remove w m j lj tj, cardinality_remove w (remove_of m j) k lk (rw (has_remove m j k, ne_eqb k j (λ e. d (sym e))) tk))

-- a member, and two, from the size
pub cardinality_member : (w m : ℕ) → 1 ≤ cardinality w m → (k : ℕ) × (k < w) × T (has m k)
unfolding sum_to
cardinality_member zero m h = absurd (omega arith)
cardinality_member (suc w) m h = go (ℕ_discrete (bit m w) 1) (cardinality_member w m)
  where
    go : Dec (bit m w ≡ 1) → (1 ≤ cardinality w m → (k : ℕ) × (k < w) × T (has m k)) → (k : ℕ) × (k < suc w) × T (has m k)
    go (yes e) ih = (w, omega arith, rw e tt)
    go (no e) ih = let r = ih (omega arith) in (r.0, omega (arith, r.1), r.2)

pub cardinality_two : (w m : ℕ) → 2 ≤ cardinality w m → (j k : ℕ) × (j < k) × (k < w) × T (has m j) × T (has m k)
unfolding sum_to
cardinality_two zero m h = absurd (omega arith)
cardinality_two (suc w) m h = go (ℕ_discrete (bit m w) 1) (cardinality_two w m)
  where
    go : Dec (bit m w ≡ 1) → (2 ≤ cardinality w m → (j k : ℕ) × (j < k) × (k < w) × T (has m j) × T (has m k)) → (j k : ℕ) × (j < k) × (k < suc w) × T (has m j) × T (has m k)
    go (yes e) ih = let r = cardinality_member w m (omega arith) in (r.0, w, r.1, omega arith, r.2, rw e tt)
    go (no e) ih = let r = ih (omega arith) in (r.0, r.1, r.2, omega (arith, r.3), r.4, r.5)

sum_low : (n : ℕ) (f : ℕ → ℕ) → sum_to (suc n) f ≡ f 0 + sum_to n (λ j. f (suc j))
unfolding sum_to
sum_low zero f = omega arith
sum_low (suc n) f = omega (arith, sum_low n f)

-- the set digits of a word of w digits
pub cardinality_ones : (w m : ℕ) → m < 2 ^ w → cardinality w m ≡ ones m
unfolding sum_to ones
cardinality_ones zero m h = go m h
  where
    go : (x : ℕ) → x < 1 → 0 ≡ ones x
    go zero l = refl
    go (suc x) l = absurd (omega arith)
cardinality_ones (suc w) m h =
    omega (
      arith,
      sum_low w (bit m),
      sum_ext w (λ j. bit m (suc j)) (bit (m / 2)) (λ j l. sym (bit_half m j)),
      cardinality_ones w (m / 2) (omega (arith, pow-suc 2 w)),
      ones_step m,
    )

-- ---- the lowest member

-- l is in m, and nothing below it is
pub record Lowest (w m l : ℕ) : Type 0 where
  pub low : l < w
  pub member : T (has m l)
  pub least : (k : ℕ) → k < l → T (has m k) → ⊥

pub lowest_is : (w m : ℕ) → 0 < m → m < 2 ^ w → Lowest w m (lowest_of w m)
lowest_is w m p h = go (first w (has m) 0)
  where
    go : First w (has m) 0 (lowest_of w m) → Lowest w m (lowest_of w m)
    go (found a b t f) = record { low = omega arith; member = t; least = λ k l u. f k (omega arith) l u }
    go (missing e f) = let r = some_member w m p h in absurd (f r.0 (omega arith) (omega (arith, r.1)) r.2)

lowest_one : {w m a b : ℕ} → Lowest w m a → Lowest w m b → a ≡ b
lowest_one {w} {m} {a} {b} x y = le_antisymm (at_most x y) (at_most y x)
  where
    at_most : {c d : ℕ} → Lowest w m c → Lowest w m d → c ≤ d
    at_most {c} {d} p q = le_of_suc-le-suc (lt_of_not-le (λ (l : suc d ≤ c). p.least d l q.member))

trailing_lowest : (w m : ℕ) → 0 < m → m < 2 ^ w → Lowest w m (count_trailing_zeros w m)
unfolding count_trailing_zeros
trailing_lowest zero m p h = absurd (omega arith)
trailing_lowest (suc w) m p h = go (m % 2) refl (λ (q : 0 < m / 2). trailing_lowest w (m / 2) q (omega (arith, pow-suc 2 w)))
  where
    go : (d : ℕ) → m % 2 ≡ d → (0 < m / 2 → Lowest w (m / 2) (count_trailing_zeros w (m / 2))) → Lowest (suc w) m (under d (count_trailing_zeros w (m / 2)))
    go zero e ih =
        let r = ih (omega arith) in
        record { low = omega (arith, r.low); member = rw (has_half m (count_trailing_zeros w (m / 2))) at r.member; least = none r.least }
      where
        none : ((k : ℕ) → k < count_trailing_zeros w (m / 2) → T (has (m / 2) k) → ⊥) → (k : ℕ) → k < suc (count_trailing_zeros w (m / 2)) → T (has m k) → ⊥
        none f zero l u = omega (arith, eqb→eq (bit m 0) 1 u)
        none f (suc k) l u = f k (omega arith) (rw (← has_half m k) at u)
    go (suc d) e ih = record { low = omega arith; member = rw (eq-eqb (bit m 0) 1 (omega arith)) tt; least = λ k l u. omega arith }

-- the zeros below the lowest set digit of a word of w digits
pub trailing : (w m : ℕ) → 0 < m → m < 2 ^ w → count_trailing_zeros w m ≡ lowest_of w m
trailing w m p h = lowest_one (trailing_lowest w m p h) (lowest_is w m p h)

-- what m shares with the number before it is all of m but its lowest set digit
shared_before : (w m : ℕ) → 0 < m → m < 2 ^ w → bit_and m (m - 1) + 2 ^ count_trailing_zeros w m ≡ m
unfolding count_trailing_zeros
shared_before zero m p h = absurd (omega arith)
shared_before (suc w) m p h = go (m % 2) refl (λ (q : 0 < m / 2). shared_before w (m / 2) q (omega (arith, pow-suc 2 w)))
  where
    half : {x : ℕ} → (m - 1) / 2 ≡ x → bit_and m (m - 1) ≡ bit_and (m / 2) x * 2 + min (m % 2) ((m - 1) % 2)
    half e = rw (← e) (and_step m (m - 1))

    go : (d : ℕ) → m % 2 ≡ d → (0 < m / 2 → bit_and (m / 2) (m / 2 - 1) + 2 ^ count_trailing_zeros w (m / 2) ≡ m / 2)
        → bit_and m (m - 1) + 2 ^ under d (count_trailing_zeros w (m / 2)) ≡ m
    go zero e ih = omega (arith, half {x = m / 2 - 1} (omega arith), ih (omega arith), pow-suc 2 (count_trailing_zeros w (m / 2)))
    go (suc d) e ih = omega (arith, half {x = m / 2} (omega arith), and_self (m / 2))

pub clear_lowest : (w m : ℕ) → 0 < m → m < 2 ^ w → bit_and m (m - 1) ≡ remove_of m (lowest_of w m)
clear_lowest w m p h =
    let l = lowest_of w m in
    rw (and_pow m l, eqb→eq (bit m l) 1 (lowest_is w m p h).member) (omega (arith, rw (trailing w m p h) at (shared_before w m p h), one-mul (2 ^ l)))

-- ---- a bit at a width

-- 1 << k at the width w
pub one_shl : (k w : ℕ) → k < w → (1 * 2 ^ k) % 2 ^ w ≡ 2 ^ k
one_shl k w h = shl_exact 1 k w (omega arith) (omega arith) ∙ one-mul (2 ^ k)

-- the n lowest digits
pub first_mask : (n : ℕ) → 2 ^ n - 1 ≡ mask_of n (λ j. true)
unfolding sum_to
first_mask zero = refl
first_mask (suc n) = omega (arith, first_mask n, pow-suc 2 n, pow_pos n)
