-- Masks that the tests of a partial placement use: a complement, what two sets share. Assumes nothing.
use mathlib.Core.Path.{◌≡◌, refl, ap, ◌∙◌}
use mathlib.Core.Bool.{Bool, true, false, not, ◌||◌, and-true}
use Prim.Native.Nat.{ℕ, zero, suc, ◌+◌, ◌-◌, ◌*◌, ◌/◌, ◌%◌, ◌^◌, ◌≤◌, ◌<◌}
use native.Mathlib.Nat.{lt_of_le_of_lt, lt_of_lt_of_le, mod-eq_of_lt}
use native.Mathlib.Omega.{arith}
use borrow.Author.Tests.{lt-ltb, eq-eqb, ne_eqb}
use lib.Bits.{bit_and, bit_or, bit_xor, differ, and_le_l, and_mask, xor_add_and, xor_shr, xor_step}
use lib.Dec.{T, eqb, ltb, eqb→eq, T_not, not_T, eqb_refl}
use lib.Pow.{pow_mono, pow_pos}
use Rattle.finite.specs.Finite.{only}
use Rattle.mask.specs.Mask.{bit, has, mask_of}
use Rattle.mask.proofs.Tests.{and_both, and_left, and_right}
use Rattle.mask.proofs.Laws.{ext, has_and, has_mask, has_of, has_or, has_zero, bit_only, mask_lt, some_member, first_mask}
use Rattle.rules.specs.Sets.{meets}
use Rattle.partial.specs.Tests.{neither}

-- the complement among w digits
pub has_not : (w x k : ℕ) → x < 2 ^ w → k < w → has (2 ^ w - 1 - x) k ≡ not (has x k)
has_not w x k lx lk =
    rw (← flipped)
    (has_of (bit_xor x (2 ^ w - 1)) k (not (has x k))
    (ap (λ (y : ℕ). y % 2) (xor_shr x (2 ^ w - 1) k ∙ xor_step (x / 2 ^ k) ((2 ^ w - 1) / 2 ^ k))
    ∙ digit (has x k) (bit x k) (bit (2 ^ w - 1) k) (bit_only x k) (bit_only (2 ^ w - 1) k ∙ ap (λ (b : Bool). only b 1) one)))
  where
    flipped : bit_xor x (2 ^ w - 1) ≡ 2 ^ w - 1 - x
    flipped = omega (arith, xor_add_and x (2 ^ w - 1), and_mask x w, mod-eq_of_lt lx, pow_pos w)

    one : has (2 ^ w - 1) k ≡ true
    one = rw (first_mask w, has_mask w (λ j. true) k, lt-ltb k w lk) refl

    digit : (b : Bool) (u v : ℕ) → u ≡ only b 1 → v ≡ 1 → (bit_xor (x / 2 ^ k / 2) ((2 ^ w - 1) / 2 ^ k / 2) * 2 + differ u v) % 2 ≡ only (not b) 1
    digit true u v e f = rw (e, f) (omega arith)
    digit false u v e f = rw (e, f) (omega arith)

-- the first n tasks, without two sets
pub neither_mask : (n all a b : ℕ) → n ≤ 32 → all ≡ mask_of n (λ j. true) → bit_or a b < 2 ^ 32 → bit_and all (2 ^ 32 - 1 - bit_or a b) ≡ neither n a b
unfolding neither
neither_mask n all a b few e small =
    ext 32 (lt_of_le_of_lt (and_le_l all (2 ^ 32 - 1 - bit_or a b)) (rw e (lt_of_lt_of_le (mask_lt n (λ j. true)) (pow_mono few))))
    (lt_of_lt_of_le (mask_lt n (λ j. not (has b j || has a j))) (pow_mono few))
    (λ k l. has_and all (2 ^ 32 - 1 - bit_or a b) k
    ∙ rw (e, has_not 32 (bit_or a b) k small l, has_mask n (λ j. true) k, and-true (ltb k n), has_or a b k, has_mask n (λ j. not (has b j || has a j)) k) refl)

-- as the code tests it
pub meets_if : (a b : ℕ) → (bit_and a b ≡ 0 → ⊥) → meets a b ≡ true
unfolding meets
meets_if a b d = rw (ne_eqb (bit_and a b) 0 d) refl

pub meets_not : (a b : ℕ) → bit_and a b ≡ 0 → meets a b ≡ false
unfolding meets
meets_not a b e = rw (eq-eqb (bit_and a b) 0 e) refl

-- a number in both sets, and the other way round
pub meets_elim : (w a b : ℕ) → a < 2 ^ w → T (meets a b) → (k : ℕ) × T (has a k) × T (has b k)
unfolding meets
meets_elim w a b low t =
    let r = some_member w (bit_and a b) (go (bit_and a b) t) (lt_of_le_of_lt (and_le_l a b) low) in
    let u = rw (has_and a b r.0) at r.2 in
    (r.0, and_left (has a r.0) (has b r.0) u, and_right (has a r.0) (has b r.0) u)
  where
    go : (x : ℕ) → T (not (eqb x 0)) → 0 < x
    go zero u = absurd (T_not (eqb 0 0) u (eqb_refl 0))
    go (suc x) u = omega arith

pub meets_intro : (a b k : ℕ) → T (has a k) → T (has b k) → T (meets a b)
unfolding meets
meets_intro a b k t u = not_T (eqb (bit_and a b) 0) (λ e. rw (eqb→eq (bit_and a b) 0 e, has_zero k) at (rw (← has_and a b k) at (and_both (has a k) (has b k) t u)))
