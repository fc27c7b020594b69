-- Laws of numbers and marks in a list of bytes, for any width. Assumes nothing.
use mathlib.Core.Path.{◌≡◌, refl, sym, ap, ◌∙◌}
use mathlib.Core.Bool.{Bool, true, false, ◌&&◌}
use mathlib.Core.List.{List, [], ◌∷◌, ◌++◌}
use Prim.Native.Nat.{ℕ, zero, suc, ◌+◌, ◌*◌, ◌/◌, ◌%◌, ◌^◌, ◌≤◌, ◌<◌}
use native.Mathlib.Nat.{pow-suc, pow-succ', pow-zero, one-le-pow, div-lt_iff_lt-mul, div-add-mod, div-div-eq-div-mul, zero-add, add-zero, suc-add, add-suc, mul_assoc}
use native.Mathlib.Numerals.{add-one}
use native.Mathlib.Decide.{ℕ_discrete}
use native.Mathlib.Omega.{arith}
use borrow.Author.Tests.{eqb-true, eq-eqb, ne_eqb}
use lib.Dec.{eqb}
use lib.ListN.{length, get_or, take, drop, length-drop}
use lib.Seq.{length-take-le, take_at, drop_at, take-append-le, drop-append-le, drop-append-add, get_or-drop, get_or-append_seam, get_or-append-add, get_or-take, take-nil}
use Rattle.wire.specs.Wire.{little, number, bytes, Bytes, bytes_at, mark_at, record_bytes}

-- a list of bytes, in part

pub take_byte : (n : ℕ) (s : List ℕ) → Bytes s → Bytes (take n s)
take_byte zero s h k = omega arith
take_byte (suc n) [] h k = omega arith
take_byte (suc n) (x ∷ xs) h zero = h zero
take_byte (suc n) (x ∷ xs) h (suc k) = take_byte n xs (λ i. h (suc i)) k

pub drop_byte : (n : ℕ) (s : List ℕ) → Bytes s → Bytes (drop n s)
drop_byte n s h k = rw get_or-drop (h (n + k))

-- the value of bytes

little_lt : (w : ℕ) (s : List ℕ) → Bytes s → little (take w s) < 256 ^ w
unfolding little
little_lt zero s h = omega (arith, pow-zero 256)
little_lt (suc w) [] h = one-le-pow (suc w) 256 (omega arith)
little_lt (suc w) (x ∷ xs) h = omega (arith, h zero, little_lt w xs (λ k. h (suc k)), pow-suc 256 w)

pub number_lt : (s : List ℕ) (at w : ℕ) → Bytes s → number s at w < 256 ^ w
unfolding number
number_lt s at w h = little_lt w (drop at s) (drop_byte at s h)

pub bytes_length : (w v : ℕ) → length (bytes w v) ≡ w
unfolding bytes
bytes_length zero v = refl
bytes_length (suc w) v = ap suc (bytes_length w (v / 256))

pub bytes_bound : (w v : ℕ) → Bytes (bytes w v)
unfolding bytes
bytes_bound zero v k = omega arith
bytes_bound (suc w) v zero = omega arith
bytes_bound (suc w) v (suc k) = bytes_bound w (v / 256) k

pub little_bytes : (w v : ℕ) → v < 256 ^ w → little (bytes w v) ≡ v
unfolding little bytes
little_bytes zero v h = omega (arith, pow-zero 256)
little_bytes (suc w) v h = omega (arith, little_bytes w (v / 256) ((div-lt_iff_lt-mul (omega arith)).1 (rw pow-suc at h)), div-add-mod v 256)

pub bytes_little : (bs : List ℕ) → Bytes bs → bytes (length bs) (little bs) ≡ bs
unfolding little bytes
bytes_little [] h = refl
bytes_little (b ∷ bs) h = go (b + 256 * little bs) (omega (arith, h zero)) (omega (arith, h zero)) (bytes_little bs (λ k. h (suc k)))
  where
    go : (v : ℕ) → v % 256 ≡ b → v / 256 ≡ little bs → bytes (length bs) (little bs) ≡ bs → v % 256 ∷ bytes (length bs) (v / 256) ≡ b ∷ bs
    go v d q e = cc

pub bytes_number : (s : List ℕ) (at w : ℕ) → Bytes s → at + w ≤ length s → bytes w (number s at w) ≡ take w (drop at s)
unfolding number
bytes_number s at w h l =
    ap (λ (n : ℕ). bytes n (little (take w (drop at s)))) (sym (length-take-le w (drop at s) (simp length-drop (omega arith))))
    ∙ bytes_little (take w (drop at s)) (take_byte w (drop at s) (drop_byte at s h))

-- where a number stands

pub number_append : (s t : List ℕ) (at w : ℕ) → at + w ≤ length s → number (s ++ t) at w ≡ number s at w
unfolding number
number_append s t at w l =
    ap (λ (r : List ℕ). little (take w r)) (drop-append-le at s t (omega arith))
    ∙ ap little (take-append-le w (drop at s) t (simp length-drop (omega arith)))

-- behind a prefix of n bytes
pub number_behind : (p s : List ℕ) (n at w : ℕ) → length p ≡ n → number (p ++ s) (n + at) w ≡ number s at w
unfolding number
number_behind p s n at w e = rw (← e, drop-append-add)

-- a field at the start of fields
pub number_here : (q : List ℕ) (w v : ℕ) → v < 256 ^ w → number (bytes w v ++ q) 0 w ≡ v
unfolding number
number_here q w v h = ap little (take_at (bytes w v) q w (bytes_length w v)) ∙ little_bytes w v h

pub number_at : (p q : List ℕ) (w v at : ℕ) → length p ≡ at → v < 256 ^ w → number (p ++ (bytes w v ++ q)) at w ≡ v
unfolding number
number_at p q w v at e h = ap (λ (l : List ℕ). little (take w l)) (drop_at p (bytes w v ++ q) at e) ∙ number_here q w v h

-- a number in parts: past the end a part is 0, so no length is asked

number_suc : (s : List ℕ) (at w : ℕ) → number s at (suc w) ≡ get_or s at 0 + 256 * number s (suc at) w
unfolding number little
number_suc [] zero w = omega (arith, ap little (take-nil w))
number_suc [] (suc at) w = omega (arith, ap little (take-nil w))
number_suc (x ∷ xs) zero w = refl
number_suc (x ∷ xs) (suc at) w = number_suc xs at w

number_zero : (s : List ℕ) (at : ℕ) → number s at 0 ≡ 0
unfolding number little
number_zero s at = refl

-- the first w bytes and the u behind them
pub number_add : (s : List ℕ) (at w u : ℕ) → number s at (w + u) ≡ number s at w + 256 ^ w * number s (at + w) u
number_add s at zero u = rw (zero-add, add-zero, pow-zero) (omega (arith, number_zero s at))
number_add s at (suc w) u =
    let n = number s (at + suc w) u in
    let e : number s (suc at + w) u ≡ n = ap (λ (k : ℕ). number s k u) (suc-add at w ∙ sym (add-suc at w)) in
    rw suc-add
    (omega (
      arith,
      number_suc s at (w + u),
      number_suc s at w,
      number_add s (suc at) w u ∙ ap (λ (k : ℕ). number s (suc at) w + 256 ^ w * k) e,
      ap (λ (k : ℕ). k * n) (pow-succ' 256 w) ∙ mul_assoc 256 (256 ^ w) n,
    ))

pub number_one : (s : List ℕ) (at : ℕ) → number s at 1 ≡ get_or s at 0
number_one s at = omega (arith, number_suc s at 0, number_zero s (suc at))

-- the bytes of a number stand at a place exactly where the number there is the same

eqb_parts : (x y v : ℕ) → x < 256 → (eqb x (v % 256) && eqb y (v / 256)) ≡ eqb (x + 256 * y) v
eqb_parts x y v l = go (ℕ_discrete x (v % 256)) (ℕ_discrete y (v / 256))
  where
    go : Dec (x ≡ v % 256) → Dec (y ≡ v / 256) → (eqb x (v % 256) && eqb y (v / 256)) ≡ eqb (x + 256 * y) v
    go (yes a) (yes b) = rw (eq-eqb x (v % 256) a, eq-eqb y (v / 256) b, eq-eqb (x + 256 * y) v (omega arith)) refl
    go (yes a) (no b) = rw (eq-eqb x (v % 256) a, ne_eqb y (v / 256) b, ne_eqb (x + 256 * y) v (λ e. b (omega arith))) refl
    go (no a) b = rw (ne_eqb x (v % 256) a, ne_eqb (x + 256 * y) v (λ e. a (omega arith))) refl

pub bytes_at_number : (s : List ℕ) → Bytes s → (w at v : ℕ) → v < 256 ^ w → bytes_at s at (bytes w v) ≡ eqb (number s at w) v
unfolding bytes_at bytes
bytes_at_number s h zero at v l = sym (eq-eqb (number s at 0) v (omega (arith, number_zero s at, pow-zero 256)))
bytes_at_number s h (suc w) at v l =
    ap (λ (t : Bool). eqb (get_or s at 0) (v % 256) && t) (bytes_at_number s h w (at + 1) (v / 256) ((div-lt_iff_lt-mul (omega arith)).1 (rw pow-suc at l)))
    ∙ eqb_parts (get_or s at 0) (number s (at + 1) w) v (h at)
    ∙ ap (λ (n : ℕ). eqb n v) (rw (add-one at) (sym (number_suc s at w)))

-- the bytes of a number of four
pub bytes_four : (v : ℕ) → bytes 4 v ≡ v % 256 ∷ v / 256 % 256 ∷ v / 65536 % 256 ∷ v / 16777216 % 256 ∷ []
unfolding bytes
bytes_four v = simp div-div-eq-div-mul

-- marks

and_true : (a b : Bool) → a && b ≡ true → (a ≡ true) × (b ≡ true)
and_true true b e = (refl, e)
and_true false b e = (e, cc)

-- two bytes, by their places
mark_pair : (m : List ℕ) → length m ≡ 2 → m ≡ get_or m 0 0 ∷ get_or m 1 0 ∷ []
mark_pair [] e = absurd (omega arith)
mark_pair (a ∷ []) e = absurd (omega arith)
mark_pair (a ∷ b ∷ []) e = refl
mark_pair (a ∷ b ∷ x ∷ r) e = absurd (omega arith)

pub mark_found : (s : List ℕ) (at a b : ℕ) → mark_at s at (a ∷ b ∷ []) ≡ true → at + 2 ≤ length s → take 2 (drop at s) ≡ a ∷ b ∷ []
unfolding mark_at
mark_found s at a b e l =
    let h = and_true (eqb (get_or s at 0) a) (eqb (get_or s (at + 1) 0) b) e in
    let d = drop at s in
    mark_pair (take 2 d) (length-take-le 2 d (simp length-drop (omega arith)))
    ∙ simp (get_or-take 2 d 0 0 (omega arith), get_or-take 2 d 1 0 (omega arith), get_or-drop, add-zero, eqb-true (get_or s at 0) a h.0, eqb-true (get_or s (at + 1) 0) b h.1)

pub mark_stands : (p q : List ℕ) (a b : ℕ) → mark_at (p ++ (a ∷ b ∷ q)) (length p) (a ∷ b ∷ []) ≡ true
unfolding mark_at
mark_stands p q a b = simp (get_or-append_seam, get_or-append-add, eq-eqb a a refl, eq-eqb b b refl)

pub record_length : (m : List ℕ) (v : ℕ) → length (record_bytes m v) ≡ 6
unfolding record_bytes
record_length m v = simp bytes_length
