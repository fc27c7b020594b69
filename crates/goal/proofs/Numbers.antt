-- The number of a placement, and that the placements stand in 01's order: the smaller number is earlier. Assumes nothing.
use mathlib.Core.Path.{◌≡◌, refl, sym, ap, ap₂, subst, ◌∙◌}
use mathlib.Core.Logic.{◌↔◌}
use mathlib.Core.List.{List, [], ◌∷◌}
use Prim.Native.Nat.{ℕ, zero, suc, ◌+◌, ◌*◌, ◌/◌, ◌%◌, ◌^◌, ◌≤◌, ◌<◌}
use native.Mathlib.Omega.{arith}
use native.Mathlib.Nat.{pow-zero, pow-suc, mul-zero, mul_comm, one-le-pow, mod-lt, mod-eq_of_lt, div-eq_of_lt, div-add-mod', div-lt_iff_lt-mul, mul-le-mul_right, mul-add-div_right, mul-add-mod_self_right, suc-mul}
use native.Mathlib.Decide.{dec_lt}
use lib.Dec.{T}
use lib.ListN.{length, get_or}
use Rattle.rules.specs.Placement.{placed}
use Rattle.rules.proofs.Placed.{placed_at, placed_is}
use Rattle.goal.specs.Order.{EarlierThan, Earlier, placement_at}

-- the number whose digits to the base m are q, the most significant first
unfoldable pub placement_number : ℕ → List ℕ → ℕ
placement_number m [] = 0
placement_number m (a ∷ q) = a * m ^ length q + placement_number m q

-- each is a digit to the base m
abbrev pub Digits : ℕ → List ℕ → Type 0
Digits m q = (k : ℕ) → k < length q → get_or q k 0 < m

first_digit : (m a : ℕ) (q : List ℕ) → Digits m (a ∷ q) → a < m
first_digit m a q d = d 0 (omega arith)

later_digits : (m a : ℕ) (q : List ℕ) → Digits m (a ∷ q) → Digits m q
later_digits m a q d k l = d (suc k) (omega arith)

-- ---- numbers of n digits

-- a power that some number stays below is of a base above 0
power_pos : (n m : ℕ) {i : ℕ} → i < m ^ suc n → 1 ≤ m ^ n
power_pos n zero l = absurd (omega (arith, pow-suc 0 n, mul-zero (0 ^ n)))
power_pos n (suc m) l = one-le-pow n (suc m) (omega arith)

pub placement_at_long : (n m i : ℕ) → length (placement_at n m i) ≡ n
unfolding placement_at
placement_at_long zero m i = refl
placement_at_long (suc n) m i = ap suc (placement_at_long n m (i % m ^ n))

pub placement_at_known : (n m : ℕ) {i : ℕ} → i < m ^ n → Digits m (placement_at n m i)
unfolding placement_at
placement_at_known zero m l k h = absurd (omega arith)
placement_at_known (suc n) m {i} l zero h = (div-lt_iff_lt-mul (power_pos n m l)).1 (omega (arith, pow-suc m n, mul_comm m (m ^ n)))
placement_at_known (suc n) m {i} l (suc k) h = placement_at_known n m (mod-lt i (power_pos n m l)) k (omega arith)

pub number_small : (m : ℕ) (q : List ℕ) → Digits m q → placement_number m q < m ^ length q
unfolding placement_number
number_small m [] d = omega (arith, pow-zero m)
number_small m (a ∷ q) d =
    omega (arith, number_small m q (later_digits m a q d), mul-le-mul_right (m ^ length q) (first_digit m a q d), suc-mul a (m ^ length q), pow-suc m (length q), mul_comm m (m ^ length q))

-- ---- there and back

digit_high : (a b : ℕ) {x : ℕ} → x < b → (a * b + x) / b ≡ a
digit_high a b {x} l = omega (arith, mul-add-div_right {m = b} (omega arith) a x, div-eq_of_lt l)

digit_low : (a b : ℕ) {x : ℕ} → x < b → (a * b + x) % b ≡ x
digit_low a b {x} l = mul-add-mod_self_right a b x ∙ mod-eq_of_lt l

whole : (m : ℕ) (q : List ℕ) → Digits m q → placement_at (length q) m (placement_number m q) ≡ q
unfolding placement_at placement_number
whole m [] d = refl
whole m (a ∷ q) d =
    let l = number_small m q (later_digits m a q d) in
    ap₂ ◌∷◌ (digit_high a (m ^ length q) l) (ap (placement_at (length q) m) (digit_low a (m ^ length q) l) ∙ whole m q (later_digits m a q d))

pub number_at : (n m : ℕ) {i : ℕ} → i < m ^ n → placement_number m (placement_at n m i) ≡ i
unfolding placement_at placement_number
number_at zero m l = omega (arith, pow-zero m)
number_at (suc n) m {i} l =
    ap₂ ◌+◌ (ap (λ (k : ℕ). i / m ^ n * m ^ k) (placement_at_long n m (i % m ^ n))) (number_at n m (mod-lt i (power_pos n m l))) ∙ div-add-mod' i (m ^ n)

pub at_number : (m : ℕ) {n : ℕ} (q : List ℕ) → length q ≡ n → Digits m q → placement_at n m (placement_number m q) ≡ q
at_number m q e d = rw (← e) (whole m q d)

-- ---- 01's order

-- one digit more in front of numbers of equally many digits: the lower digit decides, or else the rest
lower_first : (m : ℕ) {a b : ℕ} (e q : List ℕ) → length e ≡ length q → Digits m e → a < b → placement_number m (a ∷ e) < placement_number m (b ∷ q)
unfolding placement_number
lower_first m {a} {b} e q l d h =
    omega (arith, number_small m e d, ap (λ (k : ℕ). a * m ^ k) l, ap (λ (k : ℕ). m ^ k) l, mul-le-mul_right (m ^ length q) h, suc-mul a (m ^ length q))

same_first : (m : ℕ) {a b : ℕ} (e q : List ℕ) → length e ≡ length q → a ≡ b → (placement_number m e < placement_number m q) ↔ (placement_number m (a ∷ e) < placement_number m (b ∷ q))
unfolding placement_number
same_first m {a} {b} e q l h = let same = ap₂ (λ (x k : ℕ). x * m ^ k) h l in (λ k. omega arith, λ k. omega arith)

pub earlier_smaller : {m : ℕ} {e q : List ℕ} → length e ≡ length q → Digits m e → Earlier e q → placement_number m e < placement_number m q
earlier_smaller {m} {e} {q} l d f =
    let w = f.than in
    go e q l d w.task (λ j h. sym (placed_is q j (get_or e j 0) (w.same j h)).1) (omega (arith, w.lower, (placed_is q w.task w.processor w.stands).1))
  where
    go : (e q : List ℕ) → length e ≡ length q → Digits m e → (k : ℕ) → ((j : ℕ) → j < k → get_or e j 0 ≡ get_or q j 0) → get_or e k 0 < get_or q k 0 → placement_number m e < placement_number m q
    go [] [] l d k same lower = absurd (omega arith)
    go [] (b ∷ q) l d k same lower = absurd (omega arith)
    go (a ∷ e) [] l d k same lower = absurd (omega arith)
    go (a ∷ e) (b ∷ q) l d zero same lower = lower_first m e q (omega arith) (later_digits m a e d) lower
    go (a ∷ e) (b ∷ q) l d (suc k) same lower =
        (same_first m e q (omega arith) (same 0 (omega arith))).0 (go e q (omega arith) (later_digits m a e d) k (λ j h. same (suc j) (omega arith)) lower)

earlier_head : {a b : ℕ} {e q : List ℕ} → a < b → Earlier (a ∷ e) (b ∷ q)
earlier_head {b = b} {q = q} l = record { than = record { task = 0; same = λ j h. absurd (omega arith); processor = b; stands = placed_at (b ∷ q) 0 (omega arith); lower = l } }

earlier_tail : {a b : ℕ} {e q : List ℕ} → a ≡ b → Earlier e q → Earlier (a ∷ e) (b ∷ q)
earlier_tail {a} {b} {e} {q} h f =
    record { than = record { task = suc w.task; same = same; processor = w.processor; stands = behind w.task w.processor w.stands; lower = w.lower } }
  where
    w : EarlierThan (placed q) e
    w = f.than

    behind : (k p : ℕ) → T (placed q k p) → T (placed (b ∷ q) (suc k) p)
    behind k p u = let r = placed_is q k p u in subst (λ (x : ℕ). T (placed (b ∷ q) (suc k) x)) r.1 (placed_at (b ∷ q) (suc k) (omega (arith, r.0)))

    same : (j : ℕ) → j < suc w.task → T (placed (b ∷ q) j (get_or (a ∷ e) j 0))
    same zero l = subst (λ (x : ℕ). T (placed (b ∷ q) 0 x)) (sym h) (placed_at (b ∷ q) 0 (omega arith))
    same (suc j) l = behind j (get_or e j 0) (w.same j (omega arith))

by_number : (m : ℕ) (e q : List ℕ) → length e ≡ length q → Digits m q → placement_number m e < placement_number m q → Earlier e q
unfolding placement_number
by_number m [] [] l d h = absurd (omega arith)
by_number m [] (b ∷ q) l d h = absurd (omega arith)
by_number m (a ∷ e) [] l d h = absurd (omega arith)
by_number m (a ∷ e) (b ∷ q) l d h = go (dec_lt a b) (dec_lt b a) (by_number m e q (omega arith) (later_digits m b q d))
  where
    go : Dec (a < b) → Dec (b < a) → (placement_number m e < placement_number m q → Earlier e q) → Earlier (a ∷ e) (b ∷ q)
    go (yes x) y ih = earlier_head x
    go (no x) (yes y) ih = absurd (omega (arith, lower_first m q e (omega arith) (later_digits m b q d) y))
    go (no x) (no y) ih = earlier_tail (omega arith) (ih ((same_first m e q (omega arith) (omega arith)).1 h))

pub smaller_earlier : {m : ℕ} {e q : List ℕ} → length e ≡ length q → Digits m q → placement_number m e < placement_number m q → Earlier e q
smaller_earlier {m} {e} {q} = by_number m e q
