-- Laws of the least common multiple. Assumes nothing.
use mathlib.Core.Path.{◌≡◌, refl, sym, ap, ap₂, subst, subst₂, ◌∙◌}
use mathlib.Core.Logic.{◌⊎◌, inl, inr}
use mathlib.Core.Bool.{Bool}
use Prim.Native.Nat.{ℕ, zero, suc, ◌+◌, ◌*◌, ◌%◌, ◌/◌, ◌≤◌, ◌<◌, ◌∣◌}
use native.Mathlib.Nat.{
  mul_comm,
  mul_assoc,
  mul-add,
  mul-pos,
  mod-lt,
  mod-add-div,
  eq-zero-or-pos,
  not-suc-le-zero,
  mul-div_cancel',
  div-mul_cancel,
  le_of_dvd,
  one-dvd,
  pos_of_dvd_of_pos,
  dvd_trans,
  dvd_antisymm,
  dvd-mul_left,
  dvd-mul_right,
  dvd-mul_right_of_dvd,
  dvd-add_iff_left,
  dvd_of_mod-eq-zero,
  mod-eq-zero_of_dvd,
  dvd_of_mul-dvd-mul_left,
  dvd_of_mul-dvd-mul_right,
  mul-dvd-mul_left,
}
use native.Mathlib.Omega.{arith}
use native.Mathlib.Decide.{ℕ_discrete}
use lib.Dec.{T, eqb, eqb→eq}
use Rattle.finite.specs.Finite.{first_from}
use Rattle.finite.proofs.First.{First, found, missing, first}
use Rattle.lcm.specs.Lcm.{lcm, lcm_to, Gcd}

-- b divides a * j
abbrev meets : ℕ → ℕ → ℕ → Bool
meets a b j = eqb (a * j % b) 0

-- how many times lcm a b takes a
abbrev times : ℕ → ℕ → ℕ
times a b = first_from b (meets a b) 1

-- k is the least positive number with b ∣ a * k
record Times (a b k : ℕ) : Type 0 where
  pos : 0 < k
  small : k ≤ b
  hits : b ∣ a * k
  least : (j : ℕ) → 0 < j → j < k → b ∣ a * j → ⊥

times_is : (a b : ℕ) → 0 < b → Times a b (times a b)
times_is a b p = go (first b (meets a b) 1)
  where
    passes : (j : ℕ) → b ∣ a * j → T (meets a b j)
    passes j d = subst (λ (z : ℕ). T (eqb z 0)) (sym (mod-eq-zero_of_dvd b d)) tt

    go : {k : ℕ} → First b (meets a b) 1 k → Times a b k
    go {k} (found l u t h) = record {
      pos = l;
      small = omega arith;
      hits = dvd_of_mod-eq-zero b (eqb→eq (a * k % b) 0 t);
      least = λ j q r d. h j q r (passes j d);
    }
    go (missing e h) = absurd (h b (omega arith) (omega arith) (passes b (dvd-mul_left b a)))

-- the numbers j with b ∣ a * j are the multiples of the least: the remainder of one by it is one again
times_divides : {a b k : ℕ} → Times a b k → (j : ℕ) → b ∣ a * j → k ∣ j
times_divides {a} {b} {k} t j d = go (eq-zero-or-pos (j % k))
  where
    split : a * (j % k) + a * k * (j / k) ≡ a * j
    split = rw (mul_assoc, ← mul-add, mod-add-div)

    rest : b ∣ a * (j % k)
    rest = (dvd-add_iff_left b (dvd-mul_right_of_dvd b t.hits (j / k))).1 (rw split d)

    go : (j % k ≡ 0) ⊎ (0 < j % k) → k ∣ j
    go (inl e) = dvd_of_mod-eq-zero k e
    go (inr p) = absurd (t.least (j % k) p (mod-lt j t.pos) rest)

pub lcm_left : (a b : ℕ) → a ∣ lcm a b
unfolding lcm
lcm_left a b = dvd-mul_right a _

pub lcm_right : (a b : ℕ) → 0 < b → b ∣ lcm a b
unfolding lcm
lcm_right a b p = (times_is a b p).hits

pub lcm_least : (a b : ℕ) → 0 < b → (m : ℕ) → a ∣ m → b ∣ m → lcm a b ∣ m
unfolding lcm
lcm_least a b p m h k =
    let e : a * (m / a) ≡ m = mul-div_cancel' a h in
    subst (λ (z : ℕ). a * times a b ∣ z) e
    (mul-dvd-mul_left (times a b) a (times_divides (times_is a b p) (m / a) (rw e k)))

pub lcm_pos : (a b : ℕ) → 0 < a → 0 < b → 0 < lcm a b
unfolding lcm
lcm_pos a b p q = mul-pos p (times_is a b q).pos

-- Euclid's way: with k the times in lcm a b, k and b / g divide each other
pub lcm_gcd : (a b g : ℕ) → 0 < b → Gcd a b g → a * (b / g) ≡ lcm a b
unfolding lcm
lcm_gcd a b g p h = ap (λ (z : ℕ). a * z) (dvd_antisymm below above)
  where
    k : ℕ
    k = times a b

    t : Times a b k
    t = times_is a b p

    above : k ∣ b / g
    above = times_divides t (b / g) (subst (λ (z : ℕ). b ∣ z) turned (dvd-mul_left b (a / g)))
      where
        turned : a / g * b ≡ a * (b / g)
        turned =
            ap (λ (z : ℕ). a / g * z) (sym (mul-div_cancel' g h.right))
            ∙ sym (mul_assoc (a / g) g (b / g))
            ∙ ap (λ (z : ℕ). z * (b / g)) (div-mul_cancel g h.left)

    whole : k * (b / k) ≡ b
    whole = mul-div_cancel' k (times_divides t b (dvd-mul_left b a))

    in_a : b / k ∣ a
    in_a = dvd_of_mul-dvd-mul_left (b / k) t.pos (subst₂ (λ (y z : ℕ). y ∣ z) (sym whole) (mul_comm a k) t.hits)

    in_b : b / k ∣ b
    in_b = subst (λ (z : ℕ). b / k ∣ z) whole (dvd-mul_left (b / k) k)

    below : b / g ∣ k
    below = dvd_of_mul-dvd-mul_right (b / g) (pos_of_dvd_of_pos in_b p)
        (subst (λ (z : ℕ). b / g * (b / k) ∣ z) (div-mul_cancel g h.right ∙ sym whole) (mul-dvd-mul_left (b / k) (b / g) (h.greatest (b / k) in_a in_b)))

pub lcm_to_pos : (n : ℕ) (f : ℕ → ℕ) → ((j : ℕ) → j < n → 0 < f j) → 0 < lcm_to n f
unfolding lcm_to
lcm_to_pos zero f p = omega arith
lcm_to_pos (suc n) f p = lcm_pos (lcm_to n f) (f n) (lcm_to_pos n f (λ j l. p j (omega arith))) (p n (omega arith))

pub lcm_to_multiple : (n : ℕ) (f : ℕ → ℕ) → ((j : ℕ) → j < n → 0 < f j) → (j : ℕ) → j < n → f j ∣ lcm_to n f
unfolding lcm_to
lcm_to_multiple zero f p j l = absurd (not-suc-le-zero l)
lcm_to_multiple (suc n) f p j l = go (ℕ_discrete n j) (λ (k : j < n). lcm_to_multiple n f (λ i q. p i (omega arith)) j k)
  where
    go : Dec (n ≡ j) → (j < n → f j ∣ lcm_to n f) → f j ∣ lcm (lcm_to n f) (f n)
    go (yes e) ih = subst (λ (i : ℕ). f i ∣ lcm (lcm_to n f) (f n)) e (lcm_right (lcm_to n f) (f n) (p n (omega arith)))
    go (no e) ih = dvd_trans (f j) (ih (omega arith)) (lcm_left (lcm_to n f) (f n))

pub lcm_to_least : (n : ℕ) (f : ℕ → ℕ) → ((j : ℕ) → j < n → 0 < f j) → (m : ℕ) → ((j : ℕ) → j < n → f j ∣ m) → lcm_to n f ∣ m
unfolding lcm_to
lcm_to_least zero f p m d = one-dvd m
lcm_to_least (suc n) f p m d =
    let before = lcm_to_least n f (λ j l. p j (omega arith)) m (λ j l. d j (omega arith)) in
    lcm_least (lcm_to n f) (f n) (p n (omega arith)) m before (d n (omega arith))

-- more numbers, no smaller a multiple
pub lcm_to_mono : (k n : ℕ) (f : ℕ → ℕ) → ((j : ℕ) → j < n → 0 < f j) → k ≤ n → lcm_to k f ≤ lcm_to n f
lcm_to_mono k n f p l =
    le_of_dvd (lcm_to_pos n f p) (lcm_to_least k f (λ j q. p j (omega arith)) (lcm_to n f) (λ j q. lcm_to_multiple n f p j (omega arith)))

pub lcm_to_ext : (n : ℕ) (f g : ℕ → ℕ) → ((j : ℕ) → j < n → f j ≡ g j) → lcm_to n f ≡ lcm_to n g
unfolding lcm_to
lcm_to_ext zero f g e = refl
lcm_to_ext (suc n) f g e = ap₂ lcm (lcm_to_ext n f g (λ j l. e j (omega arith))) (e n (omega arith))
